-- What the steps' tests say of the plans, over plain variables.
use Rattle.std.proofs.Common.{◌≡◌, ℕ, ◌<◌, Bool, true, false, cond, not, ◌&&◌, ◌||◌, eqb, ltb, List, [], ◌∷◌, ◌++◌, length, take, Ok, Err, Result, sym, refl, ap, ◌∙◌, subst, append-nil, arith, take_all}
use mathlib.Core.Path.{subst⁻¹}
use mathlib.Core.Bool.{or-true}
use Rattle.protocol.specs.declared.Name.{Name}
use Rattle.protocol.specs.House.{Done, Dropped, is_held, is_ruled, ever_held, ruled}
use Rattle.protocol.specs.Net.{Memory, Told, asked}
use Rattle.protocol.specs.State.{State}
use Rattle.protocol.specs.Plan.{Work, Verdict, refused, does, unless, Output, speak, plan_answer}
use Rattle.orders.specs.Order.{Rec, Msg, entry_model}
use Rattle.orders.specs.Encode.{rec_bytes}
use Rattle.orders.specs.File.{all_bytes}
use Rattle.ledger.specs.View.{Fits}
use Rattle.ledger.specs.Answers.{learning, LearnGrounds}
use Rattle.steps.specs.declared.broken.Broken.{Broken}
use Rattle.steps.specs.declared.broken.Trouble.{Trouble}
use Rattle.steps.specs.declared.broken.Trouble.TheVariants.{Refused, NoMemory, Down}
use Rattle.steps.specs.Hosts.{World, Backed, on_disk, appended, synced, performed, Syncs}
use Rattle.orders.specs.Refusals.{number_of}
use Rattle.orders.specs.declared.Refusal.{Refusal}
use Rattle.home.specs.Verdicts.{verdict_of}
use Rattle.steps.specs.Stepped.{Says, Speaks, out_of, Performs, Stepped, is_done, Noted, Answered, output_of}
use Rattle.steps.specs.Ties.{Tied, StillTied, SyncTied}
use Rattle.steps.proofs.Driving.{ruled-backed, note, note_step, note-tied}

-- ANSWERS

module _ (i : ℕ) (d : Name) (v : State entry_model) (m : Memory entry_model) where
  abbrev over : Bool
  over = m.tried d && not (asked entry_model d m.asking)

  abbrev answered : Bool → Bool → Bool → Verdict (Output entry_model)
  answered a b c = cond (not a) (refused 14) (cond b (does (speak entry_model (Told d true ∷ []))) (unless ((14, not c) ∷ []) (speak entry_model (Told d false ∷ []))))

  by_tests : (a b c : Bool) → eqb d.home i ≡ a → v.ruled d ≡ b → (ltb d.start v.began || over) ≡ c → answered a b c ≡ plan_answer entry_model i d v m
  by_tests a b c p q r = sym (λ t. answered (p t) (q t) (r t))

  pub no_old : eqb d.home i ≡ true → v.ruled d ≡ false → ltb d.start v.began ≡ true → does (speak entry_model (Told d false ∷ [])) ≡ plan_answer entry_model i d v m
  unfolding unless
  no_old p q r = by_tests true false true p q (ap (λ (b : Bool). b || over) r)

  pub no-over : eqb d.home i ≡ true → v.ruled d ≡ false → over ≡ true → does (speak entry_model (Told d false ∷ [])) ≡ plan_answer entry_model i d v m
  unfolding unless
  no-over p q r = by_tests true false true p q (ap (λ (b : Bool). ltb d.start v.began || b) r ∙ or-true (ltb d.start v.began))

  pub no_answer : eqb d.home i ≡ true → v.ruled d ≡ false → ltb d.start v.began ≡ false → over ≡ false → refused 14 ≡ plan_answer entry_model i d v m
  unfolding unless
  no_answer p q r s = by_tests true false false p q (λ t. r t || s t)

-- LEARNING

noted-file : (r : Rec) (x : World) → appended (rec_bytes r) x ≡ performed (note r) x
noted-file r x = λ k. record { file = x.file ++ sym (append-nil (rec_bytes r)) k; durable = x.durable; sent = sym (append-nil x.sent) k }

sent-none : (ms : List Msg) (p : Verdict (Output entry_model)) (x y : World) → y.sent ≡ x.sent → (k : ℕ) × (y.sent ≡ x.sent ++ take k (output_of p).sends)
sent-none ms p x y e = (0, e ∙ sym (append-nil x.sent))

-- a step that adds a record
pub adds_one : (p : Verdict (Output entry_model)) (r : Rec) (b : Bool) (ms : List Msg) → does (record { adds = r ∷ []; syncs = b; sends = ms }) ≡ p → (is_done p ≡ true) × (0 < length (output_of p).adds)
adds_one p r b ms e = subst (λ (q : Verdict (Output entry_model)). (is_done q ≡ true) × (0 < length (output_of q).adds)) e (refl, omega arith)

pub noted_step : (i : ℕ) (p : Verdict (Output entry_model)) (r : Rec) (x y : World) (v u : State entry_model) (a : Result (Unit {0}) Trouble) → does (note r) ≡ p → Noted i r x y v u a → Stepped i p x y v u a
noted_step i p r x y v u (Ok tt) e n = note_step i p r x y v u e (n.0 ∙ noted-file r x) n.1
noted_step i p r x y v u (Err (Refused f)) e n = absurd n
noted_step i p r x y v u (Err NoMemory) e n = let w = adds_one p r false [] e in (n.0, n.1, w.0, w.1)
noted_step i p r x y v u (Err Down) e n = sent-none [] p x y n

pub noted-tied : (i : ℕ) (r : Rec) (x y : World) (v u : State entry_model) (a : Result (Unit {0}) Trouble) → ((d : Name) → is_held entry_model d r ≡ false) → ((d : Name) → is_ruled entry_model d r ≡ false) →
    Tied i x v → Noted i r x y v u a → StillTied i y u a
noted-tied i r x y v u (Ok tt) nh nr q n = note-tied i r x y v u nh nr (n.0 ∙ noted-file r x) n.1 q
noted-tied i r x y v u (Err (Refused f)) nh nr q n = absurd n
noted-tied i r x y v u (Err NoMemory) nh nr q n = subst⁻¹ (λ (w : World). Tied i w u) n.0 (subst⁻¹ (λ (z : State entry_model). Tied i x z) n.1 q)
noted-tied i r x y v u (Err Down) nh nr q n = tt

-- the record of what was told neither holds nor rules
learnt-unheld : (d e : Name) (b : Bool) → is_held entry_model e (cond b (Done d) (Dropped d)) ≡ false
learnt-unheld d e true = refl
learnt-unheld d e false = refl

learnt-unruled : (d e : Name) (b : Bool) → is_ruled entry_model e (cond b (Done d) (Dropped d)) ≡ false
learnt-unruled d e true = refl
learnt-unruled d e false = refl

pub learnt-fits : (d : Name) (b : Bool) (r : Rec) (v : State entry_model) → r ≡ cond b (Done d) (Dropped d) → LearnGrounds d v (Ok tt) → Fits r v
learnt-fits d true r v e g = subst⁻¹ (λ (z : Rec). Fits z v) e g.0
learnt-fits d false r v e g = subst⁻¹ (λ (z : Rec). Fits z v) e g.1

-- a told decision that was noted
pub learnt-step : (i : ℕ) (d : Name) (b : Bool) (r : Rec) (p : Verdict (Output entry_model)) (x y : World) (v u : State entry_model) (a : Result (Unit {0}) Trouble) →
    r ≡ cond b (Done d) (Dropped d) → learning d b (Ok tt) ≡ p → Noted i r x y v u a → Stepped i p x y v u a
learnt-step i d b r p x y v u a e q n = noted_step i p r x y v u a (ap (λ (z : Rec). does (note z)) e ∙ q) n

pub learnt-tied : (i : ℕ) (d : Name) (b : Bool) (r : Rec) (x y : World) (v u : State entry_model) (a : Result (Unit {0}) Trouble) → r ≡ cond b (Done d) (Dropped d) → Tied i x v → Noted i r x y v u a → StillTied i y u a
learnt-tied i d b r x y v u a e t n =
    noted-tied i r x y v u a (λ d'. ap (λ (z : Rec). is_held entry_model d' z) e ∙ learnt-unheld d d' b) (λ d'. ap (λ (z : Rec). is_ruled entry_model d' z) e ∙ learnt-unruled d d' b) t n

-- RULING

-- a test that fails, of what doesn't hold
pub turned : (b c : Bool) → b ≡ not c → c ≡ not b
turned b true e = sym (ap not e)
turned b false e = sym (ap not e)

-- what a home answers is backed by its disk
pub answer-backed : (i : ℕ) (w : World) (d : Name) (p : Verdict (Output entry_model)) (v : State entry_model) (b : Bool) → Tied i w v → Answered d p v (Ok b) → Backed (Told d b) (on_disk w)
answer-backed i w d p v true t a = ruled-backed i w v d t a.1
answer-backed i w d p v false t a = tt

-- what was decided, and said or passed on
pub said-speaks : (m : Msg) (k : Memory entry_model) (d : Result (Unit {0}) Refusal) (p : Verdict (Work entry_model)) (x y : World) (r : Result (Unit {0}) Trouble) → verdict_of (speak entry_model (m ∷ [])) k d ≡ p → Says m d x y r → Speaks (out_of p) x y r
said-speaks m k (Ok u) p x y r e s = subst (λ (q : Verdict (Work entry_model)). Speaks (out_of q) x y r) e s
said-speaks m k (Err f) p x y r e s =
    subst (λ (q : Verdict (Work entry_model)). Speaks (out_of q) x y r) e (subst⁻¹ (λ (a : Result (Unit {0}) Trouble). Speaks (refused (number_of f)) x y a) s.1 (refl, s.0))

-- SYNCING

abbrev pub syncing : Output entry_model
syncing = record { adds = []; syncs = true; sends = [] }

synced-file : (x : World) → synced x ≡ performed syncing x
synced-file x = λ k. record { file = sym (append-nil x.file) k; durable = length (sym (append-nil x.file) k); sent = sym (append-nil x.sent) k }

pub synced-performs : (x y : World) (r : Result (Unit {0}) Broken) → Syncs x y r → Performs syncing x y r
synced-performs x y (Ok tt) s = s ∙ synced-file x
synced-performs x y (Err e) s = (0, s ∙ sym (append-nil x.sent))

pub synced-tied : (i : ℕ) (x y : World) (v : State entry_model) (r : Result (Unit {0}) Broken) → Syncs x y r → Tied i x v → SyncTied i y v r
synced-tied i x y v (Err e) s q = tt
synced-tied i x y v (Ok tt) s q =
    let whole : take (length q.log) q.log ≡ q.log = take_all (length q.log) q.log (omega arith) in
    subst⁻¹ (λ (w : World). Tied i w v) s (record {
      log = q.log;
      kept = length q.log;
      few = omega arith;
      within = omega arith;
      file = q.file;
      disk = take_all (length x.file) x.file (omega arith) ∙ q.file ∙ ap (λ (rs : List Rec). all_bytes rs) (sym whole);
      state = q.state;
      held = λ d e. ap (λ (rs : List Rec). ever_held entry_model d rs) whole ∙ e;
      rules = λ d e. ap (λ (rs : List Rec). ruled entry_model d rs) whole ∙ e;
    })
