-- Readers one after the other, as the code's `?` has them.
use Rattle.std.proofs.Common.{◌≡◌, ℕ, List, None, Option, ap, ◌∙◌}
use Rattle.script.specs.Parse.{Got, got, bad, bind, given}

-- a `?` hands on None
pub given-none : {A B : Type 0} (f : A → B) (o : Option A) (ws : List (List ℕ)) (g : Got B) → o ≡ None → bad ≡ g → given f o ws ≡ g
given-none f o ws g e p = ap (λ x. given f x ws) e ∙ p

-- what is out of form stays so
pub bad-first : {A B : Type 0} (m : Got A) (f : A → List (List ℕ) → Got B) → bad ≡ m → bad ≡ bind m f
bad-first m f e = ap (λ x. bind x f) e

-- after a reader that took its words, the next one goes on
pub then_next : {A B : Type 0} (m : Got A) (f : A → List (List ℕ) → Got B) (a : A) (ws : List (List ℕ)) (x : Got B) → got a ws ≡ m → x ≡ f a ws → x ≡ bind m f
then_next m f a ws x e p = p ∙ ap (λ y. bind y f) e
