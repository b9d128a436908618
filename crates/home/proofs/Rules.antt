-- Rulings: the memory's part and the file's part make up the plan; which order is next.
use Rattle.std.proofs.Common.{◌≡◌, ℕ, Bool, true, false, cond, not, ◌&&◌, ◌||◌, T, List, [], ◌∷◌, ◌++◌, map, is_some, is_ok, Ok, Err, Result, Some, None, MatchOption, Option as Answer, sym, refl, ap, ◌∙◌, subst, ⊎_elim}
use mathlib.Core.Bool.{and_assoc}
use mathlib.Core.Option.{Option, none, some}
use Rattle.std.proofs.lemmas.Bool.{true≢false, false≢true, cases_Bool}
use Rattle.std.proofs.lemmas.Option.{none-some, same_Some}
use Rattle.std.specs.List.{find}
use Rattle.std.specs.Option.{option_map}
use Rattle.protocol.proofs.Basics.{same-eq}
use Rattle.protocol.specs.declared.Name.{Name}
use Rattle.protocol.specs.Model.{same_name}
use Rattle.protocol.specs.House.{Ruled}
use Rattle.protocol.specs.Net.{Asking, Memory, asked}
use Rattle.protocol.specs.Plan.{Verdict, refused, does, unless, plan_rule, plan_rule_of, ask_of, all_said, all_yes, no_room}
use Rattle.orders.specs.declared.Entry.{Entry}
use Rattle.orders.specs.Order.{houses_of, entry_model, Order}
use Rattle.entries.specs.Named.{named_of}
use Rattle.orders.specs.declared.Refusal.{Refusal}
use Rattle.entries.specs.declared.named.NamedOrder.{NamedOrder}
use Rattle.home.specs.declared.asked.Asked.{Asked}
use Rattle.home.specs.Memory.{asking_of, asked_of}
use Rattle.home.specs.Rulings.{ruling, rulable, ruled_work, ruled_by, accepted, may_rule, next_rulable}
use Rattle.home.specs.Verdicts.{stop_asking}
use Rattle.home.proofs.Asks.{none-asked}

-- the plan of a ruling is the memory's part, and then the file's
rule-of : (o : Option (Asking entry_model)) (bytes : ℕ) (m : Memory entry_model) → plan_rule_of entry_model o bytes m ≡ ruled_by (rulable o) bytes m
unfolding unless
rule-of none bytes m = refl
rule-of (some a) bytes m = by (all_yes entry_model a)
  where
    by : (b : Bool) → unless ((13, not b) ∷ (15, no_room entry_model (Ruled a.order) bytes) ∷ []) (ruled_work a.order m) ≡ ruled_by (cond b (does a.order) (refused 13)) bytes m
    by true = refl
    by false = refl

pub rule-splits : (d : Name) (bytes : ℕ) (m : Memory entry_model) → plan_rule entry_model d bytes m ≡ ruled_by (rulable (ask_of entry_model d m.asking)) bytes m
rule-splits d bytes m = rule-of (ask_of entry_model d m.asking) bytes m

-- the plan of a ruling from what the memory says, and from whether the file has room for the record
module _ (d : Name) (bytes : ℕ) (m : Memory entry_model) where
  abbrev said : Verdict Order
  said = rulable (ask_of entry_model d m.asking)

  from : (v : Verdict Order) → v ≡ said → ruled_by v bytes m ≡ plan_rule entry_model d bytes m
  from v e = ap (λ w. ruled_by w bytes m) e ∙ sym (rule-splits d bytes m)

  pub rule-refused : (k : ℕ) → refused k ≡ said → refused k ≡ plan_rule entry_model d bytes m
  rule-refused k e = from (refused k) e

  pub rule-full : (t : Order) → does t ≡ said → no_room entry_model (Ruled t) bytes ≡ true → refused 15 ≡ plan_rule entry_model d bytes m
  unfolding unless
  rule-full t e full = ap (λ b. unless ((15, b) ∷ []) (ruled_work t m)) (sym full) ∙ from (does t) e

  pub rule-done : (t : Order) (k : Memory entry_model) → does t ≡ said → no_room entry_model (Ruled t) bytes ≡ false → k ≡ stop_asking t.name m → does (record { out = (ruled_work t m).out; memory = k }) ≡ plan_rule entry_model d bytes m
  unfolding unless
  rule-done t k e room left =
      ap (λ (w : Memory entry_model). does (record { out = (ruled_work t m).out; memory = w })) left
      ∙ ap (λ b. unless ((15, b) ∷ []) (ruled_work t m)) (sym room)
      ∙ from (does t) e

said-append : (js ks : List ℕ) (p : ℕ → Bool) → all_said entry_model (js ++ ks) p ≡ (all_said entry_model js p && all_said entry_model ks p)
unfolding all_said
said-append [] ks p = refl
said-append (j ∷ js) ks p = ap (λ b. p j && b) (said-append js ks p) ∙ sym (and_assoc (p j) (all_said entry_model js p) (all_said entry_model ks p))

-- an order's houses are those that it read and those that it writes
pub said-both : (y : Asked) (rs ws : List Entry) (b c : Bool) → rs ≡ (named_of y.order).reads → ws ≡ (named_of y.order).writes → b ≡ all_said entry_model (houses_of rs) (asking_of y).yes → c ≡ all_said entry_model (houses_of ws) (asking_of y).yes →
    (b && c) ≡ all_yes entry_model (asking_of y)
said-both y rs ws b c r w p q =
    (λ t. p t && q t)
    ∙ (λ t. all_said entry_model (houses_of (r t)) (asking_of y).yes && all_said entry_model (houses_of (w t)) (asking_of y).yes)
    ∙ sym (said-append (houses_of (named_of y.order).reads) (houses_of (named_of y.order).writes) (asking_of y).yes)

-- what is said of the first order of a name, if there is one
abbrev said_of : Answer Asked → Verdict Order
said_of None = refused 12
said_of (Some y) = cond (all_yes entry_model (asking_of y)) (does (named_of y.order)) (refused 13)

module _ (d : Name) where
  rule-found : (xs : List Asked) → said_of (find (asked_of d) xs) ≡ rulable (ask_of entry_model d (map asking_of xs))
  unfolding ask_of
  rule-found [] = refl
  rule-found (x ∷ xs) = by (asked_of d x) (rule-found xs)
    where
      by : (b : Bool) → said_of (find (asked_of d) xs) ≡ rulable (ask_of entry_model d (map asking_of xs)) → said_of (cond b (Some x) (find (asked_of d) xs)) ≡ rulable (cond b (some (asking_of x)) (ask_of entry_model d (map asking_of xs)))
      by true k = refl
      by false k = k

  pub rule-none : (xs : List Asked) → None ≡ find (asked_of d) xs → refused 12 ≡ rulable (ask_of entry_model d (map asking_of xs))
  rule-none xs e = ap said_of e ∙ rule-found xs

  pub rule-some : (xs : List Asked) (y : Asked) (b : Bool) → Some y ≡ find (asked_of d) xs → b ≡ all_yes entry_model (asking_of y) →
      cond b (does (named_of y.order)) (refused 13) ≡ rulable (ask_of entry_model d (map asking_of xs))
  rule-some xs y b e p = ap (λ z. cond z (does (named_of y.order)) (refused 13)) p ∙ ap said_of e ∙ rule-found xs

-- the name of an order asked about
abbrev pub name_of : Asked → Name
name_of a = a.order.name

pub accepted-ok : (r : Result NamedOrder Refusal) → is_ok r ≡ accepted (ruling r)
accepted-ok (Ok k) = refl
accepted-ok (Err f) = refl

module _ (qs : List (Asking entry_model)) where
  next-names : (xs : List Asked) → find (may_rule qs) (map name_of xs) ≡ next_rulable qs (map asking_of xs)
  next-names [] = refl
  next-names (x ∷ xs) = ap (cond (may_rule qs (name_of x)) (Some (name_of x))) (next-names xs)

  -- what a search of their names answers
  pub next-found : (xs : List Asked) (r : Answer Name) → option_map (λ d. d) r ≡ find (may_rule qs) (map name_of xs) → r ≡ next_rulable qs (map asking_of xs)
  next-found xs None e = e ∙ next-names xs
  next-found xs (Some d) e = e ∙ next-names xs

  may-next : (rest : List (Asking entry_model)) (d : Name) → next_rulable qs rest ≡ Some d → may_rule qs d ≡ true
  may-next [] d e = absurd (none-some d e)
  may-next (a ∷ rest) d e = by (may_rule qs a.order.name) refl e (may-next rest d)
    where
      by : (b : Bool) → may_rule qs a.order.name ≡ b → cond b (Some a.order.name) (next_rulable qs rest) ≡ Some d → (next_rulable qs rest ≡ Some d → may_rule qs d ≡ true) → may_rule qs d ≡ true
      by true m e k = ap (may_rule qs) (sym (same_Some _ _ e)) ∙ m
      by false m e k = k e

  none-next : (rest : List (Asking entry_model)) (d : Name) → next_rulable qs rest ≡ None → asked entry_model d rest ≡ true → may_rule qs d ≡ false
  unfolding asked
  none-next [] d e t = absurd (false≢true t)
  none-next (a ∷ rest) d e t = by (may_rule qs a.order.name) (same_name d a.order.name) refl refl e t (none-next rest d)
    where
      by : (b c : Bool) → may_rule qs a.order.name ≡ b → same_name d a.order.name ≡ c → cond b (Some a.order.name) (next_rulable qs rest) ≡ None → (c || asked entry_model d rest) ≡ true →
          (next_rulable qs rest ≡ None → asked entry_model d rest ≡ true → may_rule qs d ≡ false) → may_rule qs d ≡ false
      by true c m s e t k = absurd (true≢false (ap is_some e))
      by false true m s e t k = ap (may_rule qs) (same-eq d a.order.name (subst T (sym s) tt)) ∙ m
      by false false m s e t k = k e t

  -- where there is no next order, none may be ruled
  none-may : next_rulable qs qs ≡ None → (d : Name) → may_rule qs d ≡ false
  none-may e d = ⊎_elim (none-next qs d e) (λ f. ap (λ o. accepted (rulable o)) (none-asked d qs f)) (cases_Bool (asked entry_model d qs))

  pub next-cases : (r : Answer Name) → r ≡ next_rulable qs qs → MatchOption r ((d : Name) → may_rule qs d ≡ false) (λ d. may_rule qs d ≡ true)
  next-cases None e = none-may (sym e)
  next-cases (Some d) e = may-next qs d (sym e)
