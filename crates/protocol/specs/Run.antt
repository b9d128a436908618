-- The steps of all houses as one function on the network, and a list of commands as a run.
-- Assumes nothing.
use Rattle.std.specs.Prelude.{◌≡◌, Bool, true, false, cond, ◌&&◌, ◌||◌, not, List, [], ◌∷◌, ◌++◌, ℕ, nat_eq, nat_lt}
use Rattle.protocol.specs.Model.{Model, same_name, houses_ok, name_ok}
use Rattle.protocol.specs.House.{Rec, Began, Held, Done, Dropped, Ruled}
use Rattle.protocol.specs.Net.{House, Msg, Hold, Yes, Told, Net, at, Step}
use Rattle.protocol.specs.Laws.{Laws}
use Rattle.protocol.specs.State.{file_size}
use Rattle.protocol.specs.Plan.{Input, do_submit, do_hold, do_vote, do_rule, do_give_up, do_answer, do_learn, do_sync, Verdict, refused, does, Work, plan, worked, unsynced, restart}

-- a command to the network: something comes to a house, or the house stops, and of the bytes that it wrote since its last sync so many are still there
pub data Command (M : Model) : Type 0 where
  deliver : (house : ℕ) → Input M → Command M
  stop_at : (house kept : ℕ) → Command M

module _ (M : Model) where
  -- what a step answers: its refusal, or what it sends
  abbrev pub Answer : Type 0
  Answer = Verdict (List (Msg M))

  -- one house by itself
  abbrev pub afterwards : Verdict (Work M) → House M → Answer × House M
  afterwards (refused k) h = (refused k, h)
  afterwards (does w) h = (does w.out.sends, worked M w h)

  abbrev pub act : ℕ → Input M → House M → Answer × House M
  act i x h = afterwards (plan M i x h) h

  -- messages are compared as a whole
  abbrev pub same_bool : Bool → Bool → Bool
  same_bool true b = b
  same_bool false b = not b

  abbrev pub same_msg : Msg M → Msg M → Bool
  same_msg (Hold t) (Hold u) = M.same t u
  same_msg (Hold t) (Yes j d) = false
  same_msg (Hold t) (Told d b) = false
  same_msg (Yes i c) (Hold u) = false
  same_msg (Yes i c) (Yes j d) = nat_eq i j && same_name c d
  same_msg (Yes i c) (Told d b) = false
  same_msg (Told c a) (Hold u) = false
  same_msg (Told c a) (Yes j d) = false
  same_msg (Told c a) (Told d b) = same_name c d && same_bool a b

  unfoldable pub was_sent : Msg M → List (Msg M) → Bool
  was_sent m [] = false
  was_sent m (x ∷ xs) = same_msg m x || was_sent m xs

  -- a message arrives only if it was sent; what comes from a counter always does
  abbrev pub arrived : Input M → List (Msg M) → Bool
  arrived (do_submit t) ms = true
  arrived (do_hold t) ms = was_sent (Hold t) ms
  arrived (do_vote j d) ms = was_sent (Yes j d) ms
  arrived (do_rule d) ms = true
  arrived (do_give_up d) ms = true
  arrived (do_answer d) ms = true
  arrived (do_learn d b) ms = was_sent (Told d b) ms
  arrived do_sync ms = true

  -- its numbers are in range where there are n houses
  abbrev pub input_ok : ℕ → Input M → Bool
  input_ok n (do_submit t) = M.valid n t
  input_ok n (do_hold t) = M.valid n t
  input_ok n (do_vote j d) = nat_lt j n && name_ok n d
  input_ok n (do_rule d) = name_ok n d
  input_ok n (do_give_up d) = name_ok n d
  input_ok n (do_answer d) = name_ok n d
  input_ok n (do_learn d b) = name_ok n d
  input_ok n do_sync = true

  -- there is such a house
  abbrev pub house_ok : ℕ → ℕ → Bool
  house_ok n i = houses_ok n && nat_lt i n

  -- the rulings, with those among the records
  unfoldable pub rulings : List (Rec M) → List M.Order → List M.Order
  rulings [] ds = ds
  rulings (Began ∷ rs) ds = rulings rs ds
  rulings (Held t ∷ rs) ds = rulings rs ds
  rulings (Done d ∷ rs) ds = rulings rs ds
  rulings (Dropped d ∷ rs) ds = rulings rs ds
  rulings (Ruled t ∷ rs) ds = rulings rs (ds ++ (t ∷ []))

  -- the network when house i has done its work
  abbrev pub lift : ℕ → Work M → Net M → Net M
  lift i w s = record { house = at M i (worked M w (s.house i)) s.house; sent = w.out.sends ++ s.sent; done = rulings w.out.adds s.done }

  abbrev pub delivered : ℕ → Verdict (Work M) → Net M → Answer × Net M
  delivered i (refused k) s = (refused k, s)
  delivered i (does w) s = (does w.out.sends, lift i w s)

  abbrev pub came_up : ℕ → Verdict (House M) → Net M → Answer × Net M
  came_up i (refused k) s = (refused k, s)
  came_up i (does h) s = (does [], record { house = at M i h s.house; sent = s.sent; done = s.done })

  -- THE NETWORK. 1: a message that nobody sent, more bytes than there are; 2: a number out of range; else what the house answers
  abbrev pub step : ℕ → Command M → Net M → Answer × Net M
  step n (deliver i x) s =
      cond (not (arrived x s.sent)) (refused 1, s)
      (cond (not (house_ok n i && input_ok n x)) (refused 2, s)
      (delivered i (plan M i x (s.house i)) s))
  step n (stop_at i b) s =
      cond (not (house_ok n i)) (refused 2, s)
      (cond (nat_lt (file_size M (unsynced M (s.house i))) b) (refused 1, s)
      (came_up i (restart M b (s.house i)) s))

  unfoldable pub run : ℕ → List (Command M) → Net M → Net M
  run n [] s = s
  run n (c ∷ cs) s = run n cs (step n c s).1

  unfoldable pub answers : ℕ → List (Command M) → Net M → List Answer
  answers n [] s = []
  answers n (c ∷ cs) s = (step n c s).0 ∷ answers n cs (step n c s).1

-- a command that is done is a step of the relation, and one that is refused leaves all as it was
abbrev pub Moved : (M : Model) → ℕ → Net M → Answer M → Net M → Type 0
Moved M n s (refused k) t = t ≡ s
Moved M n s (does ms) t = Step M n s t

abbrev pub FaithfulAt : Model → Type 0
FaithfulAt M = (n : ℕ) (c : Command M) (s : Net M) → Moved M n s (step M n c s).0 (step M n c s).1

abbrev pub Faithful : Type 1
Faithful = (M : Model) → Laws M → FaithfulAt M
