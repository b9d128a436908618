-- The refusals that the worked cases don't meet, and the limits at their edges.
-- Assumes nothing.
use Rattle.std.specs.Prelude.{◌≡◌, Bool, true, false, ◌&&◌, not, List, [], ◌∷◌, ◌++◌, ℕ, zero, suc, ◌+◌, nat_eq}
use Rattle.protocol.specs.House.{Began, Ruled}
use Rattle.protocol.specs.Net.{House, start, no_memory}
use Rattle.protocol.specs.Plan.{Verdict, refused, does, do_submit, do_hold, do_vote, do_rule, do_give_up, do_answer, do_learn, do_sync, restart}
use Rattle.protocol.specs.Run.{deliver, stop_at}
use Rattle.orders.specs.declared.Entry.{Entry}
use Rattle.orders.specs.Order.{Order, Rec, entry_model}
use Rattle.promise.specs.Case.{Play, Row, pass, name, entry, order, refused_by, submits, holds}

-- the k-th of many orders of house 0 that write in house 1
abbrev nth : ℕ → Order
nth k = order (name 0 1 k) [] (entry (65536 + k) 1 ∷ [])

-- so many are submitted and held
unfoldable pub many : ℕ → List Play
many zero = []
many (suc k) = submits (nth k) ∷ holds 1 (nth k) ∷ many k

abbrev other : Order
other = order (name 1 1 0) [] (entry 65700 1 ∷ [])

-- the third again with other entries
abbrev changed : Order
changed = order (name 0 1 3) [] (entry 65539 2 ∷ [])

-- with 64 asked about and 64 held back: refusals 1, 2, 4 to 7 and 11 to 14; 8, 9 and 10 are in the worked cases, 3 and 15 in AllFull
abbrev pub refusals : List Row
refusals =
    record { plays = many 64; shelves = []; held = (0, []) ∷ []; starts = []; rulings = [] }
    ∷ record {
      plays =
          refused_by 1 (deliver 1 (do_hold changed)) ∷ refused_by 1 (deliver 1 (do_learn (name 0 1 3) true)) ∷ refused_by 1 (stop_at 1 1)
          ∷ refused_by 2 (deliver 2 do_sync) ∷ refused_by 2 (stop_at 2 0) ∷ refused_by 2 (deliver 0 (do_submit (order (name 0 1 65536) [] []))) ∷ refused_by 2 (deliver 0 (do_submit (order (name 0 1 70) [] (entry 4096 1 ∷ []))))
          ∷ refused_by 4 (deliver 0 (do_submit other)) ∷ refused_by 4 (deliver 0 (do_submit (order (name 0 2 70) [] []))) ∷ refused_by 5 (deliver 0 (do_submit (nth 3))) ∷ refused_by 6 (deliver 0 (do_submit (nth 70)))
          ∷ refused_by 7 (deliver 0 (do_hold (nth 3))) ∷ submits other ∷ refused_by 11 (deliver 1 (do_hold other)) ∷ holds 1 (nth 3)
          ∷ refused_by 12 (deliver 1 (do_vote 1 (name 0 1 3))) ∷ refused_by 12 (deliver 1 (do_give_up (name 0 1 3))) ∷ refused_by 12 (deliver 1 (do_rule (name 0 1 3)))
          ∷ refused_by 13 (deliver 0 (do_rule (name 0 1 3))) ∷ refused_by 14 (deliver 0 (do_answer (name 0 1 3))) ∷ refused_by 14 (deliver 1 (do_answer (name 0 1 3))) ∷ refused_by 14 (deliver 0 (do_answer (name 0 1 64))) ∷ [];
      shelves = [];
      held = (0, []) ∷ [];
      starts = (0, 1) ∷ (1, 1) ∷ [];
      rulings = [];
    }
    ∷ []

abbrev pub AllRefusals : Type 0
AllRefusals = pass 2 refusals (start entry_model) ≡ true

unfoldable pub copies : ℕ → Rec → List Rec
copies zero r = []
copies (suc k) r = r ∷ copies k r

abbrev unsynced_house : List Rec → House entry_model
unsynced_house f = record { file = f; durable = 0; memory = no_memory entry_model }

abbrev is_refused_by : {A : Type 0} → ℕ → Verdict A → Bool
is_refused_by k (refused j) = nat_eq j k
is_refused_by k (does a) = false

-- eight reads and eight writes: 140 bytes
abbrev eight : List Entry
eight = entry 1 1 ∷ entry 1 1 ∷ entry 1 1 ∷ entry 1 1 ∷ entry 1 1 ∷ entry 1 1 ∷ entry 1 1 ∷ entry 1 1 ∷ []

abbrev big : Order
big = order (name 0 1 0) eight eight

-- a house that began 65,535 times stays down, one that began once less comes up; 29,959 records of 140 bytes and 44 of one byte fill the file
abbrev pub AllFull : Type 0
AllFull =
    (is_refused_by 3 (restart entry_model 65535 (unsynced_house (copies 65535 Began))) && not (is_refused_by 3 (restart entry_model 65534 (unsynced_house (copies 65534 Began)))))
    && is_refused_by 15 (restart entry_model 4194304 (unsynced_house (copies 44 Began ++ copies 29959 (Ruled big)))) && not (is_refused_by 15 (restart entry_model 4194303 (unsynced_house (copies 43 Began ++ copies 29959 (Ruled big)))))
    ≡ true
