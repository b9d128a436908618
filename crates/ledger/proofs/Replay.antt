-- A file taken in record by record.
use Rattle.std.proofs.Common.{◌≡◌, ℕ, ◌+◌, ◌<◌, ◌≤◌, Bool, true, false, not, ◌&&◌, List, [], ◌∷◌, ◌++◌, length, drop, Ok, Err, Result, sym, refl, ap, ◌∙◌, subst, arith}
use Rattle.std.proofs.lemmas.Bool.{and_parts, and_from, and_left, and_right, lt-ltb}
use Rattle.protocol.specs.Model.{most_bytes}
use Rattle.protocol.specs.State.{State, empty_state, apply, replay, lawful, within_limits, all_lawful, all_within, rec_size}
use Rattle.orders.specs.Order.{Rec, entry_model}
use Rattle.protocol.specs.Plan.{no_room}
use Rattle.orders.specs.Parse.{got, parse}
use Rattle.orders.specs.Answers.{record_read}
use Rattle.orders.specs.declared.Refusal.{Refusal}
use Rattle.orders.specs.declared.Refusal.TheVariants.{BadHistory}
use Rattle.orders.specs.declared.Record.{Record}
use Rattle.orders.specs.declared.Order.{Order as Slots}
use Rattle.orders.specs.declared.read.ReadError.{ReadError}
use Rattle.orders.specs.declared.read.ReadError.TheVariants.{Cut}
use Rattle.orders.specs.declared.read.ReadError.TheVariants as read
use Rattle.orders.specs.File.{Reached, start, next}
use Rattle.ledger.specs.View.{view, Fits}
use Rattle.ledger.specs.Opening.{ReadTo, Cause, no_record, not_next, EndOf, Replayed, Opened, is_house}
use Rattle.ledger.specs.declared.Ledger.{Ledger}
use Rattle.ledger.specs.declared.Trouble.{Trouble}
use Rattle.ledger.specs.declared.Trouble.TheVariants.{Refused, NoMemory}
use Rattle.ledger.proofs.Sizes.{Small, moved}

abbrev S : Type 0
S = State entry_model

replay-push : (h : ℕ) (rs : List Rec) (r : Rec) (v : S) → replay entry_model h (rs ++ r ∷ []) v ≡ apply entry_model h r (replay entry_model h rs v)
unfolding replay
replay-push h [] r v = refl
replay-push h (q ∷ rs) r v = replay-push h rs r (apply entry_model h q v)

lawful-push : (h : ℕ) (rs : List Rec) (r : Rec) (v : S) → all_lawful entry_model h rs v ≡ true → lawful entry_model h r (replay entry_model h rs v) ≡ true → all_lawful entry_model h (rs ++ r ∷ []) v ≡ true
unfolding all_lawful replay
lawful-push h [] r v a b = and_from _ _ b refl
lawful-push h (q ∷ rs) r v a b =
    let p = and_parts (lawful entry_model h q v) (all_lawful entry_model h rs (apply entry_model h q v)) a in
    and_from _ _ p.0 (lawful-push h rs r (apply entry_model h q v) p.1 b)

within-push : (h : ℕ) (rs : List Rec) (r : Rec) (v : S) → all_within entry_model h rs v ≡ true → within_limits entry_model r (replay entry_model h rs v) ≡ true → all_within entry_model h (rs ++ r ∷ []) v ≡ true
unfolding all_within replay
within-push h [] r v a b = and_from _ _ b refl
within-push h (q ∷ rs) r v a b =
    let p = and_parts (within_limits entry_model q v) (all_within entry_model h rs (apply entry_model h q v)) a in
    and_from _ _ p.0 (within-push h rs r (apply entry_model h q v) p.1 b)

module _ (n h : ℕ) (bs : List ℕ) where
  pub read_none : (v : S) → is_house n h ≡ true → v ≡ empty_state entry_model → ReadTo n h bs v
  unfolding replay all_lawful all_within
  read_none v there e = record {
    house = there;
    records = [];
    read = subst (λ (w : S). Reached n bs [] (drop w.bytes bs)) (sym e) start;
    within = subst (λ (w : S). w.bytes ≤ length bs) (sym e) (omega arith);
    room = subst (λ (w : S). w.bytes ≤ most_bytes) (sym e) (omega arith);
    accepted = refl;
    state = e;
  }

  -- no whole record comes next
  pub read-end : (v : S) (x : Result (Record × Slots × ℕ) ReadError) (a : Result Unit Trouble) → ReadTo n h bs v → record_read bs x ≡ parse n (drop v.bytes bs) → ((p : Record × Slots × ℕ) → x ≡ Ok p → ⊥) → EndOf x a → Replayed n h bs v a
  read-end v (Ok w) a p e none end = absurd (none w refl)
  read-end v (Err Cut) a p e none end = subst (Replayed n h bs v) (sym end) (p, sym e)
  read-end v (Err (read.Refused f)) a p e none end = subst (Replayed n h bs v) (sym end) (no_record v p (sym e))

  -- the record r comes next, read up to the place `to` by a house that is numbered i
  module _ (small : Small bs) (i : ℕ) (same : i ≡ h) (v : S) (p : ReadTo n h bs v) (r : Rec) (to : ℕ) (says : got r (drop to bs) ≡ parse n (drop v.bytes bs)) (on : (v.bytes < to) × (to ≤ length bs)) where
    behind : to ≡ v.bytes + rec_size entry_model r
    behind = moved n bs v.bytes to r small (sym says) on.0 on.1

    abbrev may : ℕ → S → Bool
    may j u = lawful entry_model j r u && within_limits entry_model r u

    pub read-long : 4194304 < to → Cause n h bs BadHistory
    read-long l =
        let full : no_room entry_model r v.bytes ≡ true = lt-ltb 4194304 (v.bytes + rec_size entry_model r) (subst (λ k. 4194304 < k) behind l) in
        not_next v r (drop to bs) p (sym says) (and_right (may h v) (not (no_room entry_model r v.bytes)) (ap not full)) refl

    pub read-wrong : false ≡ may i v → Cause n h bs BadHistory
    read-wrong e = not_next v r (drop to bs) p (sym says) (and_left (may h v) (not (no_room entry_model r v.bytes)) (ap (λ j. may j v) (sym same) ∙ sym e)) refl

    pub read_fits : to ≤ 4194304 → true ≡ may i v → Fits r v
    read_fits l e = ((and_parts (lawful entry_model i r v) (within_limits entry_model r v) (sym e)).1, subst (λ k. k ≤ 4194304) behind l)

    pub read_more : to ≤ 4194304 → true ≡ may i v → (w : S) → w ≡ apply entry_model i r v → ReadTo n h bs w
    read_more l a w q =
        let rs = p.records in
        let o = empty_state entry_model in
        let both = and_parts (lawful entry_model h r v) (within_limits entry_model r v) (ap (λ j. may j v) (sym same) ∙ sym a) in
        let before = and_parts (all_lawful entry_model h rs o) (all_within entry_model h rs o) p.accepted in
        let at : to ≡ w.bytes = behind ∙ sym (ap (λ (u : S). u.bytes) q) in
        record {
          house = p.house;
          records = rs ++ r ∷ [];
          read = next rs (drop v.bytes bs) (drop w.bytes bs) r p.read (sym says ∙ ap (λ k. got r (drop k bs)) at);
          within = subst (λ k. k ≤ length bs) at on.1;
          room = subst (λ k. k ≤ most_bytes) at l;
          accepted =
              and_from _ _
              (lawful-push h rs r o before.0 (subst (λ (u : S). lawful entry_model h r u ≡ true) p.state both.0))
              (within-push h rs r o before.1 (subst (λ (u : S). within_limits entry_model r u ≡ true) p.state both.1));
          state = q ∙ ap (λ j. apply entry_model j r v) same ∙ ap (apply entry_model h r) p.state ∙ sym (replay-push h rs r o);
        }

-- a file that is refused by f
pub replay_refused : (n h : ℕ) (bs : List ℕ) (v : S) (x : Trouble) (f : Refusal) → x ≡ Refused f → Cause n h bs f → Replayed n h bs v (Err x)
replay_refused n h bs v x f e p = subst (λ y. Replayed n h bs v (Err y)) (sym e) p

-- a file that was replayed onto words of our own, which were then copied into those that were lent
pub replayed-opened : (n h i : ℕ) (bs : List ℕ) (l : Ledger) (words before after : List ℕ) → i ≡ h → l.house ≡ i → after ≡ words → Replayed n i bs (view l words) (Ok tt) → Opened n h bs before after (Ok l)
replayed-opened n h i bs l words before after e f g p =
    (f ∙ e, subst (λ m. ReadTo n h bs (view l m)) (sym g) (subst (λ j. ReadTo n j bs (view l words)) e p.0), p.1)

-- one that was not, when nothing was copied
pub replayed-refused : (n h i : ℕ) (bs : List ℕ) (v : S) (before : List ℕ) (x : Trouble) → i ≡ h → Replayed n i bs v (Err x) → Opened n h bs before before (Err x)
replayed-refused n h i bs v before (Refused f) e p = (refl, subst (λ j. Cause n j bs f) e p)
replayed-refused n h i bs v before NoMemory e p = refl
