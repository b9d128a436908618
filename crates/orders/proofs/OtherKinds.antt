-- Bytes that are no kind of a record, and those that are none of a message. Assumes nothing.
use Rattle.std.proofs.Common.{◌≡◌, ◌≢◌, ℕ, List, sym, refl, ap, ◌∙◌, ◌⊎◌, ⊎_elim}
use Rattle.std.proofs.lemmas.Bool.{ne_eqb}
use Rattle.orders.specs.declared.kind.Kind.{Kind}
use Rattle.orders.specs.declared.kind.Kind.TheVariants.{Began, Held, Done, Dropped, Ruled, Hold, Yes, Told}
use Rattle.orders.specs.Kind.{byte_of}
use Rattle.orders.specs.Parse.{got, bad, bind, byte, kind, form, mkind, mform}

-- no kind has the byte
pub no_record : (b : ℕ) (bs rest : List ℕ) → got b rest ≡ byte bs → ((k : Kind) → byte_of k ≢ b) → bad 1 ≡ form bs
unfolding form kind
no_record b bs rest e h =
    let none : bad 1 ≡ kind b rest = rw (ne_eqb b 1 (λ p. h Began (sym p)), ne_eqb b 2 (λ p. h Held (sym p)), ne_eqb b 3 (λ p. h Done (sym p)), ne_eqb b 4 (λ p. h Dropped (sym p)), ne_eqb b 5 (λ p. h Ruled (sym p))) in
    none ∙ ap (λ g. bind g kind) e

pub no_message : (b : ℕ) (bs rest : List ℕ) → got b rest ≡ byte bs → ((k : Kind) → byte_of k ≢ b) → bad 1 ≡ mform bs
unfolding mform mkind
no_message b bs rest e h =
    let none : bad 1 ≡ mkind b rest = rw (ne_eqb b 6 (λ p. h Hold (sym p)), ne_eqb b 7 (λ p. h Yes (sym p)), ne_eqb b 8 (λ p. h Told (sym p))) in
    none ∙ ap (λ g. bind g mkind) e

-- the kinds of messages are none of records, nor the other way round
pub message_kind : (k : Kind) (b : ℕ) (bs rest : List ℕ) → got b rest ≡ byte bs → byte_of k ≡ b → (k ≡ Hold) ⊎ ((k ≡ Yes) ⊎ (k ≡ Told)) → bad 1 ≡ form bs
unfolding form kind
message_kind k b bs rest e is w = ⊎_elim (λ p. at Hold p refl) (⊎_elim (λ p. at Yes p refl) (λ p. at Told p refl)) w
  where
    at : (j : Kind) → k ≡ j → bad 1 ≡ kind (byte_of j) rest → bad 1 ≡ form bs
    at j p none = none ∙ ap (λ x. kind x rest) (sym (ap byte_of p) ∙ is) ∙ ap (λ g. bind g kind) e

pub record_kind : (k : Kind) (b : ℕ) (bs rest : List ℕ) → got b rest ≡ byte bs → byte_of k ≡ b → (k ≡ Began) ⊎ ((k ≡ Held) ⊎ ((k ≡ Done) ⊎ ((k ≡ Dropped) ⊎ (k ≡ Ruled)))) → bad 1 ≡ mform bs
unfolding mform mkind
record_kind k b bs rest e is w = ⊎_elim (λ p. at Began p refl) (⊎_elim (λ p. at Held p refl) (⊎_elim (λ p. at Done p refl) (⊎_elim (λ p. at Dropped p refl) (λ p. at Ruled p refl)))) w
  where
    at : (j : Kind) → k ≡ j → bad 1 ≡ mkind (byte_of j) rest → bad 1 ≡ mform bs
    at j p none = none ∙ ap (λ x. mkind x rest) (sym (ap byte_of p) ∙ is) ∙ ap (λ g. bind g mkind) e
