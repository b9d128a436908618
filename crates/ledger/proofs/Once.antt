-- The bytes of a file determine what opening it answers.
use Rattle.std.proofs.Common.{◌≡◌, ℕ, ◌+◌, ◌≤◌, Bool, true, false, not, List, [], ◌∷◌, drop, Ok, Err, sym, refl, ap, ◌∙◌, subst, arith}
use Rattle.std.proofs.lemmas.Bool.{both_ways, and_parts, and_from, le-ltb}
use Rattle.protocol.specs.Model.{most_bytes}
use Rattle.protocol.specs.State.{State, empty_state, apply, replay, lawful, within_limits, all_lawful, all_within, rec_size}
use Rattle.protocol.proofs.Replays.{state-opened}
use Rattle.orders.specs.Order.{Rec, entry_model}
use Rattle.orders.specs.Refusals.{number_of}
use Rattle.orders.specs.Parse.{got, cut, bad, parse}
use Rattle.orders.proofs.Files.{Front, none, first, front}
use Rattle.orders.specs.declared.Refusal.{Refusal}
use Rattle.ledger.specs.View.{view}
use Rattle.ledger.specs.Opening.{admitted, is_house, ReadTo, Cause, no_house, no_record, not_next, SaysFile, OpensOnce}
use Rattle.ledger.specs.declared.Trouble.TheVariants.{Refused, NoMemory}

abbrev S : Type 0
S = State entry_model

pub says-file : SaysFile
says-file n h bs v p = p.state ∙ sym (state-opened entry_model h p.records)

-- each record may come next
AllNext : ℕ → List Rec → S → Type 0
AllNext h [] u = Unit {0}
AllNext h (r ∷ rs) u = (admitted h r u ≡ true) × AllNext h rs (apply entry_model h r u)

grows : (h : ℕ) (rs : List Rec) (u : S) → u.bytes ≤ (replay entry_model h rs u).bytes
unfolding replay
grows h [] u = omega arith
grows h (r ∷ rs) u = let g = grows h rs (apply entry_model h r u) in omega arith

all-next : (h : ℕ) (rs : List Rec) (u : S) → all_lawful entry_model h rs u ≡ true → all_within entry_model h rs u ≡ true → (replay entry_model h rs u).bytes ≤ most_bytes → AllNext h rs u
unfolding replay all_lawful all_within AllNext
all-next h [] u a b l = tt
all-next h (r ∷ rs) u a b l =
    let p = and_parts (lawful entry_model h r u) (all_lawful entry_model h rs (apply entry_model h r u)) a in
    let q = and_parts (within_limits entry_model r u) (all_within entry_model h rs (apply entry_model h r u)) b in
    let g = grows h rs (apply entry_model h r u) in
    let fits : u.bytes + rec_size entry_model r ≤ most_bytes = omega arith in
    (and_from _ _ (and_from _ _ p.0 q.0) (ap not (le-ltb most_bytes (u.bytes + rec_size entry_model r) fits)), all-next h rs (apply entry_model h r u) p.1 q.1 l)

-- no record may come next
abbrev Stops : ℕ → ℕ → List ℕ → S → Type 0
Stops n h xs v = (r : Rec) (rest : List ℕ) → parse n xs ≡ got r rest → admitted h r v ≡ false

never : {A : Type 0} (b : Bool) → b ≡ true → b ≡ false → A
never b e f = absurd (both_ways b f e)

one-front : (n h : ℕ) (bs : List ℕ) (rs qs : List Rec) (xs ys : List ℕ) (u : S) → Front n bs rs xs → AllNext h rs u → Stops n h xs (replay entry_model h rs u) → Front n bs qs ys → AllNext h qs u → Stops n h ys (replay entry_model h qs u) → rs ≡ qs
unfolding replay AllNext
one-front n h bs rs qs xs ys u (none os) a s (none zs) b t = refl
one-front n h bs rs qs xs ys u (none os) a s (first zs cs q ts vs f k) b t = never (admitted h q u) b.0 (s q cs f)
one-front n h bs rs qs xs ys u (first os cs r us ws e k) a s (none zs) b t = never (admitted h r u) a.0 (t r cs e)
one-front n h bs rs qs xs ys u (first os cs r us ws e k) a s (first zs ds q ts vs f j) b t =
    let same : q ≡ r = cc in
    let left : ds ≡ cs = cc in
    let on = one-front n h cs us ts ws vs (apply entry_model h r u) k a.1 s (subst (λ w. Front n w ts vs) left j) (subst (λ o. AllNext h ts (apply entry_model h o u)) same b.1) (subst (λ o. Stops n h vs (replay entry_model h ts (apply entry_model h o u))) same t) in
    λ i. sym same i ∷ on i

module _ (n h : ℕ) (bs : List ℕ) where
  -- the reading stops in one state alone
  one_state : (v w : S) → ReadTo n h bs v → Stops n h (drop v.bytes bs) v → ReadTo n h bs w → Stops n h (drop w.bytes bs) w → v ≡ w
  one_state v w p s q t =
      let o = empty_state entry_model in
      p.state
      ∙ ap (λ rs. replay entry_model h rs o) (one-front n h bs p.records q.records (drop v.bytes bs) (drop w.bytes bs) o
      (front n bs p.records _ p.read) (nexts v p) (subst (Stops n h (drop v.bytes bs)) p.state s)
      (front n bs q.records _ q.read) (nexts w q) (subst (Stops n h (drop w.bytes bs)) q.state t))
      ∙ sym q.state
    where
      nexts : (x : S) (y : ReadTo n h bs x) → AllNext h y.records (empty_state entry_model)
      nexts x y =
          let a = and_parts (all_lawful entry_model h y.records (empty_state entry_model)) (all_within entry_model h y.records (empty_state entry_model)) y.accepted in
          all-next h y.records (empty_state entry_model) a.0 a.1 (subst (λ (x : S). x.bytes ≤ most_bytes) y.state y.room)

  abbrev At : S → Type 0
  At v = ReadTo n h bs v

  abbrev here : S → List ℕ
  here v = drop v.bytes bs

  stops-cut : (v : S) → parse n (here v) ≡ cut → Stops n h (here v) v
  stops-cut v e r rest f = let z : ◌≡◌ {A = ℕ} 0 1 = cc in absurd (omega arith)

  stops-bad : (v : S) (k : ℕ) → parse n (here v) ≡ bad k → Stops n h (here v) v
  stops-bad v k e r rest f = let z : ◌≡◌ {A = ℕ} 0 1 = cc in absurd (omega arith)

  stops-got : (v : S) (q : Rec) (xs : List ℕ) → parse n (here v) ≡ got q xs → admitted h q v ≡ false → Stops n h (here v) v
  stops-got v q xs e bar r rest f = let same : q ≡ r = cc in subst (λ o. admitted h o v ≡ false) same bar

  place : (v w : S) → v ≡ w → parse n (here v) ≡ parse n (here w)
  place v w e = ap (λ (u : S). parse n (here u)) e

  -- a file that opens isn't refused
  pub not-both : (v : S) (g : Refusal) → At v → parse n (here v) ≡ cut → Cause n h bs g → ⊥
  not-both v g p e (no_house t z) = never (is_house n h) p.house t
  not-both v g p e (no_record w q f) =
      let a = place v w (one_state v w p (stops-cut v e) q (stops-bad w (number_of g) f)) in
      let z : ◌≡◌ {A = ℕ} 0 1 = cc in omega arith
  not-both v g p e (not_next w r rest q f bar z) =
      let a = place v w (one_state v w p (stops-cut v e) q (stops-got w r rest f bar)) in
      let z : ◌≡◌ {A = ℕ} 0 1 = cc in omega arith

  -- nor by two numbers
  one-cause : (f g : Refusal) → Cause n h bs f → Cause n h bs g → number_of f ≡ number_of g
  one-cause f g (no_house s x) (no_house t y) = x ∙ sym y
  one-cause f g (no_house s x) (no_record w q e) = never (is_house n h) q.house s
  one-cause f g (no_house s x) (not_next w r rest q e bar y) = never (is_house n h) q.house s
  one-cause f g (no_record v p d) (no_house t y) = never (is_house n h) p.house t
  one-cause f g (no_record v p d) (no_record w q e) =
      let a = place v w (one_state v w p (stops-bad v (number_of f) d) q (stops-bad w (number_of g) e)) in
      cc
  one-cause f g (no_record v p d) (not_next w r rest q e bar y) =
      let a = place v w (one_state v w p (stops-bad v (number_of f) d) q (stops-got w r rest e bar)) in
      let z : ◌≡◌ {A = ℕ} 0 1 = cc in absurd (omega arith)
  one-cause f g (not_next v r rest p d bar x) (no_house t y) = never (is_house n h) p.house t
  one-cause f g (not_next v r rest p d bar x) (no_record w q e) =
      let a = place v w (one_state v w p (stops-got v r rest d bar) q (stops-bad w (number_of g) e)) in
      let z : ◌≡◌ {A = ℕ} 0 1 = cc in absurd (omega arith)
  one-cause f g (not_next v r rest p d bar x) (not_next w o more q e ban y) = x ∙ sym y

pub opens-once : OpensOnce
opens-once n h bs m m' w w' (Ok l) (Ok k) p q = one_state n h bs (view l m') (view k w') p.1 (stops-cut n h bs (view l m') p.2) q.1 (stops-cut n h bs (view k w') q.2)
opens-once n h bs m m' w w' (Ok l) (Err (Refused g)) p q = not-both n h bs (view l m') g p.1 p.2 q.1
opens-once n h bs m m' w w' (Ok l) (Err NoMemory) p q = tt
opens-once n h bs m m' w w' (Err (Refused f)) (Ok k) p q = not-both n h bs (view k w') f q.1 q.2 p.1
opens-once n h bs m m' w w' (Err (Refused f)) (Err (Refused g)) p q = one-cause n h bs f g p.1 q.1
opens-once n h bs m m' w w' (Err (Refused f)) (Err NoMemory) p q = tt
opens-once n h bs m m' w w' (Err NoMemory) b p q = tt
