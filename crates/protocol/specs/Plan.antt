-- The steps of one house as functions: what it does with what comes to it, or the number by which it refuses.
-- Assumes nothing.
use Rattle.std.specs.Prelude.{Bool, true, false, cond, ◌&&◌, ◌||◌, not, List, [], ◌∷◌, ◌++◌, ℕ, ◌+◌, ◌-◌, nat_eq, nat_lt, nat_le, length, take, drop}
use Rattle.std.proofs.Math.Option.{Option, none, some}
use Rattle.protocol.specs.declared.Name.{Name}
use Rattle.protocol.specs.Model.{Model, same_name, most_held, most_asked, most_starts, most_bytes}
use Rattle.protocol.specs.House.{Rec, Began, Held, Done, Dropped, Ruled, starts, is_in}
use Rattle.protocol.specs.Net.{Asking, Memory, House, Msg, Hold, Yes, Told, nobody, voted, drop_ask, asked, restarted}
use Rattle.protocol.specs.State.{State, rec_size, file_size, state_of}

-- what comes to a house that is up: an order or a question from a counter, a message, the wish to sync
pub data Input (M : Model) : Type 0 where
  do_submit : M.Order → Input M
  do_hold : M.Order → Input M
  do_vote : (from : ℕ) → Name → Input M
  do_rule : Name → Input M
  do_give_up : Name → Input M
  do_answer : Name → Input M
  do_learn : Name → (yes : Bool) → Input M
  do_sync : Input M

-- refused by its number, or done
pub data Verdict (A : Type 0) : Type 0 where
  refused : ℕ → Verdict A
  does : A → Verdict A

-- the causes of refusal in the order of their numbers, each with whether it holds: the first that does decides
abbrev pub Causes : Type 0
Causes = List (ℕ × Bool)

unfoldable pub unless : {A : Type 0} → Causes → A → Verdict A
unless [] a = does a
unless (c ∷ cs) a = cond c.1 (refused c.0) (unless cs a)

-- what a step asks of the host: it adds records, syncs or not, and then sends
pub record Output (M : Model) : Type 0 where
  pub adds : List (Rec M)
  pub syncs : Bool
  pub sends : List (Msg M)

-- a step's output, and the memory that the house has when the records are durable
pub record Work (M : Model) : Type 0 where
  pub out : Output M
  pub memory : Memory M

module _ (M : Model) where
  -- may the record not be added to a file of so many bytes
  abbrev pub no_room : Rec M → ℕ → Bool
  no_room r k = nat_lt most_bytes (k + rec_size M r)

  abbrev pub speak : List (Msg M) → Output M
  speak ms = record { adds = []; syncs = false; sends = ms }

  -- an order whose name isn't held back
  abbrev pub plan_new_hold : ℕ → M.Order → State M → Verdict (Output M)
  plan_new_hold i t v = unless
      ((8, v.ever (M.name t))
      ∷ (9, not (M.clear i t v.held v.shelves))
      ∷ (10, not (M.sees_here i t v.shelves))
      ∷ (11, nat_le most_held (length v.held))
      ∷ (15, no_room (Held t) v.bytes)
      ∷ [])
      (record { adds = Held t ∷ []; syncs = true; sends = Yes i (M.name t) ∷ [] })

  -- the order itself is among those
  unfoldable pub is_held_back : M.Order → List M.Order → Bool
  is_held_back t [] = false
  is_held_back t (u ∷ us) = M.same t u || is_held_back t us

  -- HOLD. An order that is held back already gets its yes again, and nothing is written; another order of its name is refused like one that was held before
  abbrev pub plan_hold : ℕ → M.Order → State M → Verdict (Output M)
  plan_hold i t v =
      cond (not (M.party i t)) (refused 7)
      (cond (is_held_back t v.held) (does (speak (Yes i (M.name t) ∷ []))) (plan_new_hold i t v))

  -- LEARN
  abbrev pub plan_learn : Name → Bool → State M → Verdict (Output M)
  plan_learn d b v =
      let r : Rec M = cond b (Done d) (Dropped d) in
      unless ((12, not (is_in M d v.held)) ∷ (15, no_room r v.bytes) ∷ []) (record { adds = r ∷ []; syncs = false; sends = [] })

  -- ANSWER: yes of a name that is ruled; no of one that isn't, if it is of an earlier start, or was tried in this one and is no longer asked about
  abbrev pub plan_answer : ℕ → Name → State M → Memory M → Verdict (Output M)
  plan_answer i d v m =
      cond (not (nat_eq d.home i)) (refused 14)
      (cond (v.ruled d) (does (speak (Told d true ∷ [])))
      (unless ((14, not (nat_lt d.start v.began || (m.tried d && not (asked M d m.asking)))) ∷ []) (speak (Told d false ∷ []))))

  -- SUBMIT, to a house that is in this start
  abbrev pub plan_submit : ℕ → M.Order → (start : ℕ) → Memory M → Verdict (Work M)
  plan_submit i t start m = unless
      ((4, not (nat_eq (M.name t).home i && nat_eq (M.name t).start start))
      ∷ (5, m.tried (M.name t))
      ∷ (6, nat_le most_asked (length m.asking))
      ∷ [])
      (record {
        out = speak (Hold t ∷ []);
        memory = record { asking = m.asking ++ (record { order = t; yes = nobody M } ∷ []); tried = λ d. same_name d (M.name t) || m.tried d };
      })

  abbrev pub keep_asking : List (Asking M) → Memory M → Memory M
  keep_asking qs m = record { asking = qs; tried = m.tried }

  -- VOTE
  abbrev pub plan_vote : ℕ → Name → Memory M → Verdict (Work M)
  plan_vote j d m = unless ((12, not (asked M d m.asking)) ∷ []) (record { out = speak []; memory = keep_asking (voted M j d m.asking) m })

  -- the first order of that name that is asked about
  unfoldable pub ask_of : Name → List (Asking M) → Option (Asking M)
  ask_of d [] = none
  ask_of d (a ∷ rest) = cond (same_name d (M.name a.order)) (some a) (ask_of d rest)

  unfoldable pub all_said : List ℕ → (ℕ → Bool) → Bool
  all_said [] p = true
  all_said (j ∷ js) p = p j && all_said js p

  -- every house of the order has said yes
  abbrev pub all_yes : Asking M → Bool
  all_yes a = all_said (M.houses a.order) a.yes

  -- RULE, in a file of so many bytes: this is the commit point
  abbrev pub plan_rule_of : Option (Asking M) → (bytes : ℕ) → Memory M → Verdict (Work M)
  plan_rule_of none bytes m = refused 12
  plan_rule_of (some a) bytes m = unless ((13, not (all_yes a)) ∷ (15, no_room (Ruled a.order) bytes) ∷ [])
      (record {
        out = record { adds = Ruled a.order ∷ []; syncs = true; sends = Told (M.name a.order) true ∷ [] };
        memory = keep_asking (drop_ask M (M.name a.order) m.asking) m;
      })

  abbrev pub plan_rule : Name → (bytes : ℕ) → Memory M → Verdict (Work M)
  plan_rule d bytes m = plan_rule_of (ask_of d m.asking) bytes m

  -- GIVE UP
  abbrev pub plan_give_up_of : Option (Asking M) → Memory M → Verdict (Work M)
  plan_give_up_of none m = refused 12
  plan_give_up_of (some a) m = does (record { out = speak (Told (M.name a.order) false ∷ []); memory = keep_asking (drop_ask M (M.name a.order) m.asking) m })

  abbrev pub plan_give_up : Name → Memory M → Verdict (Work M)
  plan_give_up d m = plan_give_up_of (ask_of d m.asking) m

  -- a step that leaves the memory as it is
  abbrev pub keeping : Memory M → Verdict (Output M) → Verdict (Work M)
  keeping m (refused k) = refused k
  keeping m (does o) = does (record { out = o; memory = m })

  -- THE HOUSE: what house i does with what comes to it, by what its file says and by its memory
  abbrev pub plan_on : ℕ → Input M → State M → Memory M → Verdict (Work M)
  plan_on i (do_submit t) v m = plan_submit i t v.began m
  plan_on i (do_hold t) v m = keeping m (plan_hold i t v)
  plan_on i (do_vote j d) v m = plan_vote j d m
  plan_on i (do_rule d) v m = plan_rule d v.bytes m
  plan_on i (do_give_up d) v m = plan_give_up d m
  plan_on i (do_answer d) v m = keeping m (plan_answer i d v m)
  plan_on i (do_learn d b) v m = keeping m (plan_learn d b v)
  plan_on i do_sync v m = does (record { out = record { adds = []; syncs = true; sends = [] }; memory = m })

  abbrev pub plan : ℕ → Input M → House M → Verdict (Work M)
  plan i x h = plan_on i x (state_of M i h.file) h.memory

  -- the file with records added one by one
  unfoldable pub added : List (Rec M) → List (Rec M) → List (Rec M)
  added [] f = f
  added (r ∷ rs) f = added rs (f ++ (r ∷ []))

  -- the house when the work is done
  abbrev pub worked : Work M → House M → House M
  worked w h =
      let f = added w.out.adds h.file in
      record { file = f; durable = cond w.out.syncs (length f) h.durable; memory = w.memory }

  -- STOP. How many whole records b bytes have
  unfoldable pub whole_in : ℕ → List (Rec M) → ℕ
  whole_in b [] = 0
  whole_in b (r ∷ rs) = cond (nat_le (rec_size M r) b) (whole_in (b - rec_size M r) rs + 1) 0

  -- the records written since the last sync
  abbrev pub unsynced : House M → List (Rec M)
  unsynced h = drop h.durable h.file

  -- a house that comes up with these records writes began; 65,535 starts and a full file keep it down
  abbrev pub comes_up : List (Rec M) → House M → Verdict (House M)
  comes_up f h = unless ((3, nat_le most_starts (starts M f)) ∷ (15, no_room Began (file_size M f)) ∷ []) h

  -- coming up with what the disk has for good and b bytes more, of which it reads the whole records
  abbrev pub restart : ℕ → House M → Verdict (House M)
  restart b h = let k = h.durable + whole_in b (unsynced h) in comes_up (take k h.file) (restarted M k h)
