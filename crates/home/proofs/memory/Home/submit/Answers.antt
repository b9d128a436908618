use Rattle.std.proofs.Common.{◌≡◌, ◌==◌, ◌&&◌, true, ℕ, ◌<◌, Bool, [], ◌∷◌, ◌++◌, map, length, vec_items, sym, refl, ap, ◌∙◌, arith, rules}
use mathlib.Core.Path.{fun_ext}
use Rattle.std.proofs.lemmas.Bool.{le-leb, lt-leb}
use Rattle.std.proofs.lemmas.Bool.Decides.{nat_tests}
use Rattle.std.proofs.lemmas.List.{length-map, map_push}
use Rattle.protocol.specs.Plan.{unless}
use Rattle.entries.specs.Named.{named_of}
use Rattle.home.specs.Memory.{asking_of, memory_of}
use Rattle.home.proofs.Marks.{all-false, tried-set}
use Rattle.home.proofs.Ends.{refuses, accepts, submits}
use Rattle.home.proofs.memory.Home.submit.Goals as goal

pub returns-then-not-is_own : goal.returns-then-not-is_own
unfolding unless
returns-then-not-is_own c = refuses _ _ _ _ (grind (arith, nat_tests))

pub returns-then-has_tried : goal.returns-then-has_tried
unfolding unless
returns-then-has_tried c = refuses _ _ _ _ (grind (arith, nat_tests))

pub returns-then-len-ge-MOST_ASKED : goal.returns-then-len-ge-MOST_ASKED
unfolding unless
returns-then-len-ge-MOST_ASKED c =
    let l = length-map (vec_items c.args.self.asking) asking_of in
    refuses _ _ _ _ (grind (arith, nat_tests))

pub returns : goal.returns
returns c =
    let n : c.args.order.name.number < length (vec_items c.args.self.tried) = search rules in
    let l = length-map (vec_items c.args.self.asking) asking_of in
    let few : length (map asking_of (vec_items c.args.self.asking)) < 64 = search rules in
    let own : (c.args.order.name.home == c.args.self.house && c.args.order.name.start == c.args.self.start) ≡ true = sym c.is_own.ensures ∙ c.if-not-is_own.false in
    accepts _ _ _ _
    (submits c.args.self.house c.args.self.start (named_of c.args.order) (memory_of c.args.self) _
    (le-leb c.args.order.name.number 65535 (omega arith))
    own
    (sym c.if-has_tried.ensures)
    (lt-leb _ _ few)
    (ap (map asking_of) c.push_reserved.ensures.items ∙ map_push asking_of (vec_items c.args.self.asking) _ ∙ ap (λ (y : ℕ → Bool). map asking_of (vec_items c.args.self.asking) ++ (record { order = named_of c.args.order; yes = y } ∷ [])) (fun_ext (all-false 16)))
    (tried-set c.args.self.house c.args.self.start (vec_items c.args.self.tried) c.args.order.name own n))
    refl refl
