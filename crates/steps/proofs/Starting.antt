-- Coming up: from the bytes of a log to a house that is up.
use Rattle.std.proofs.Common.{◌≡◌, ℕ, ◌+◌, List, [], ◌∷◌, ◌++◌, length, take, drop, Err, sym, refl, ap, ◌∙◌, subst, inl, append-nil, arith, length-append, length-drop, take_all}
use lib.Seq.{take-append-add}
use Rattle.protocol.specs.House.{Began, ever_held, ruled}
use Rattle.protocol.specs.State.{State, state_of, apply}
use Rattle.protocol.proofs.Replays.{state-snoc}
use Rattle.orders.specs.Order.{Rec, entry_model}
use Rattle.orders.specs.Parse.{cut, parse}
use Rattle.orders.specs.Encode.{rec_bytes}
use Rattle.orders.specs.File.{all_bytes}
use Rattle.orders.proofs.Files.{file-one-form}
use Rattle.ledger.specs.Opening.{ReadTo, Cause}
use Rattle.ledger.proofs.Sizes.{Small, small_bytes}
use Rattle.ledger.proofs.Once.{says-file}
use Rattle.steps.specs.declared.broken.Trouble.{Trouble}
use Rattle.steps.specs.declared.broken.Trouble.TheVariants.{Refused, NoMemory, Down}
use Rattle.steps.specs.Hosts.{World, appended, synced}
use Rattle.steps.specs.Start.{Holds, Up, OpenedLog, CameUp}
use Rattle.orders.proofs.Files.{bytes-snoc}

take-front : (xs ys bs : List ℕ) (k : ℕ) → bs ≡ xs ++ ys → length xs ≡ k → take k bs ≡ xs
take-front xs ys bs k e l =
    ap (λ (zs : List ℕ). take k zs) e ∙ ap (λ (j : ℕ). take j (xs ++ ys)) (let z : k ≡ length xs + 0 = omega (arith, l) in z) ∙ take-append-add xs ys 0 ∙ append-nil xs

-- what was read is what the bytes are
pub holds_read : (n i : ℕ) (bs : List ℕ) (v : State entry_model) → Small bs → ReadTo n i bs v → parse n (drop v.bytes bs) ≡ cut → Holds n i bs v
holds_read n i bs v s p e =
    let form = file-one-form n bs p.records (drop v.bytes bs) (small_bytes bs s) p.read in
    let size : length (all_bytes p.records) ≡ v.bytes = omega (arith, ap length form, length-append (all_bytes p.records) (drop v.bytes bs), length-drop v.bytes bs, p.within) in
    record { records = p.records; bytes = take-front (all_bytes p.records) (drop v.bytes bs) bs v.bytes form size; end = e; opened = p.accepted; state = says-file n i bs v p }

-- a log that was not opened leaves the house down and the host as it was
pub down : (n i : ℕ) (bs before after : List ℕ) (x : World) (w : Trouble) → bs ≡ x.file → OpenedLog n i bs before after (Err w) → CameUp n i x x after (Err w)
down n i bs before after x (Refused f) e o = (refl, inl (subst (λ (ys : List ℕ). Cause n i ys f) e o.1))
down n i bs before after x NoMemory e o = refl
down n i bs before after x Down e o = absurd o

-- the torn end is cut off, began is appended, and all is synced
pub up : (n i : ℕ) (bs : List ℕ) (x a b y : World) (v u : State entry_model) (k : ℕ) → bs ≡ x.file → Holds n i bs v → k ≡ v.bytes → (a.file ≡ take k x.file) × (a.sent ≡ x.sent) → b ≡ appended (rec_bytes Began) a → y ≡ synced b →
    u ≡ apply entry_model i Began v → Up n i x y u
up n i bs x a b y v u k e h q c d s g =
    let rs = h.records in
    let log = rs ++ (Began ∷ []) in
    let kept : a.file ≡ all_bytes rs = c.0 ∙ ap (λ (j : ℕ). take j x.file) q ∙ ap (λ (ys : List ℕ). take v.bytes ys) (sym e) ∙ h.bytes in
    let file : y.file ≡ all_bytes log = ap (λ (w : World). w.file) s ∙ ap (λ (w : World). w.file) d ∙ ap (λ (ys : List ℕ). ys ++ rec_bytes Began) kept ∙ sym (bytes-snoc rs Began) in
    let state : u ≡ state_of entry_model i log = g ∙ ap (λ (w : State entry_model). apply entry_model i Began w) h.state ∙ sym (state-snoc entry_model i rs Began) in
    let durable : y.durable ≡ length y.file = ap (λ (w : World). w.durable) s ∙ ap (λ (w : World). length w.file) (sym s) in
    let whole : take (length log) log ≡ log = take_all (length log) log (omega arith) in
    record {
      found = v;
      holds = record { records = rs; bytes = ap (λ (ys : List ℕ). take v.bytes ys) (sym e) ∙ h.bytes; end = ap (λ (ys : List ℕ). parse n (drop v.bytes ys)) (sym e) ∙ h.end; opened = h.opened; state = h.state };
      file = file;
      sent = ap (λ (w : World). w.sent) s ∙ ap (λ (w : World). w.sent) d ∙ c.1;
      state = state;
      tied = record {
        log = log;
        kept = length log;
        few = omega arith;
        within = omega (arith, durable);
        file = file;
        disk = take_all y.durable y.file (omega (arith, durable)) ∙ file ∙ ap (λ (zs : List Rec). all_bytes zs) (sym whole);
        state = state;
        held = λ d e. ap (λ (zs : List Rec). ever_held entry_model d zs) whole ∙ e;
        rules = λ d e. ap (λ (zs : List Rec). ruled entry_model d zs) whole ∙ e;
      };
    }
