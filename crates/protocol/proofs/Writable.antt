-- After any list of commands every record of every file can be written.
use mathlib.Core.Path.{subst⁻¹}
use mathlib.Core.Bool.{cond, ◌&&◌, not}
use mathlib.Core.List.{List, [], ◌∷◌}
use Prim.Native.Nat.{ℕ, ◌+◌}
use lib.Dec.{ltb}
use lib.ListN.{take}
use Rattle.protocol.specs.Model.{Model}
use Rattle.protocol.specs.Laws.{Laws}
use Rattle.protocol.specs.House.{Rec, Began}
use Rattle.protocol.specs.Net.{House, Net, start, at, Reach, begin}
use Rattle.protocol.specs.State.{file_size}
use Rattle.protocol.specs.Plan.{Verdict, refused, does, Work, plan, unsynced, whole_in, restart}
use Rattle.protocol.specs.Run.{Command, deliver, stop_at, Answer, arrived, input_ok, house_ok, delivered, came_up, step, run}
use Rattle.protocol.specs.Crash.{Codec, AllFit, FitsValid}
use Rattle.protocol.proofs.Basics.{by_bool, and_r}
use Rattle.protocol.proofs.Inv.{at_all}
use Rattle.protocol.proofs.Runs.{by-unless, by_cond, step-reach}
use Rattle.protocol.proofs.Local.{added_is}
use Rattle.protocol.proofs.Torn.{fit-both, fit-take}
use Rattle.protocol.proofs.Accepts.{Fits, plan-fits}

module _ (M : Model) (L : Laws M) (C : Codec M) (n : ℕ) (fv : FitsValid M C n) where
  Files : Net M → Type 0
  Files s = (j : ℕ) → AllFit C (s.house j).file

  -- only house i's file changes
  files-at : (s : Net M) (i : ℕ) (h : House M) → Files s → AllFit C h.file → (j : ℕ) → AllFit C (at M i h s.house j).file
  unfolding Files
  files-at s i h b c = at_all M (λ j x. AllFit C x.file) i h s.house c (λ j e. b j)

  delivered-files : (s : Net M) (i : ℕ) (p : Verdict (Work M)) → Files s → Fits M L C n fv p → Files (delivered M i p s).1
  unfolding Files files-at
  delivered-files s i (refused k) b w = b
  delivered-files s i (does o) b w =
      let f = (s.house i).file in
      files-at s i _ b (subst⁻¹ (λ (g : List (Rec M)). AllFit C g) (added_is M o.out.adds f) (fit-both M C f o.out.adds (b i) w))

  came_up-files : (s : Net M) (i k : ℕ) → Files s → Files (came_up M i (restart M k (s.house i)) s).1
  unfolding Files files-at
  came_up-files s i k b =
      let h = s.house i in
      let j = h.durable + whole_in M k (unsynced M h) in
      by-unless (λ p. Files (came_up M i p s).1) _ _ (λ _. b) (λ c. files-at s i _ b (fit-both M C (take j h.file) (Began ∷ []) (fit-take M C j h.file (b i)) (C.began, tt)))

  step-files : (c : Command M) (s : Net M) → Reach M n s → Files s → Files (step M n c s).1
  step-files (deliver i x) s p b =
      let Q : Answer M × Net M → Type 0 = λ a. Files a.1 in
      let inner : Answer M × Net M = delivered M i (plan M i x (s.house i)) s in
      by_cond Q (not (arrived M x s.sent)) _ _ (λ _. b) (λ _.
      by_bool (λ ok. Q (cond (not ok) (refused 2, s) inner)) (house_ok M n i && input_ok M n x)
      (λ ok. delivered-files s i (plan M i x (s.house i)) b (plan-fits M L C n fv s p i x (and_r (house_ok M n i) (input_ok M n x) ok))) (λ _. b))
  step-files (stop_at i k) s p b =
      let Q : Answer M × Net M → Type 0 = λ a. Files a.1 in
      by_cond Q (not (house_ok M n i)) _ _ (λ _. b) (λ _. by_cond Q (ltb (file_size M (unsynced M (s.house i))) k) _ _ (λ _. b) (λ _. came_up-files s i k b))

  run-files : (cs : List (Command M)) (s : Net M) → Reach M n s → Files s → Files (run M n cs s)
  unfolding run
  run-files [] s p b = b
  run-files (c ∷ cs) s p b = run-files cs (step M n c s).1 (step-reach M L n c s p) (step-files c s p b)

  pub files-fit : (cs : List (Command M)) (i : ℕ) → AllFit C ((run M n cs (start M)).house i).file
  unfolding Files
  files-fit cs i = run-files cs (start M) begin (λ j. (C.began, tt)) i
