-- The ledger's format as a codec of the network, and what holds where machines stop at any moment.
use mathlib.Core.Path.{◌≡◌, refl, ◌∙◌, sym, ap, subst⁻¹}
use mathlib.Core.Bool.{Bool, true}
use mathlib.Core.List.{List, [], ◌∷◌}
use Prim.Native.Nat.{ℕ, ◌≤◌}
use lib.Dec.{T}
use lib.ListN.{take}
use Rattle.protocol.specs.Model.{houses_ok, name_ok, most_bytes}
use Rattle.protocol.specs.House.{Held, Done, Dropped, Ruled}
use Rattle.protocol.specs.State.{file_size, opens}
use Rattle.protocol.specs.Crash as crash
use Rattle.protocol.specs.Crash.{Codec}
use Rattle.protocol.proofs.Basics.{is_true, and_both}
use Rattle.protocol.proofs.Covered.{interrupted}
use Rattle.protocol.proofs.OneStep.{one-step}
use Rattle.protocol.proofs.Accepts.{accepts}
use Rattle.protocol.proofs.Writable.{files-fit}
use Rattle.protocol.proofs.Limits.{opens_at}
use Rattle.orders.specs.Order.{Rec, rec_ok, order_ok, entry_model}
use Rattle.orders.specs.Encode.{rec_bytes}
use Rattle.orders.specs.Parse.{Got, parse}
use Rattle.orders.specs.File.{AllFit}
use Rattle.orders.proofs.Lengths.{sized}
use Rattle.orders.proofs.ReadBack.{reads-back}
use Rattle.orders.proofs.Longer.{cut_short}
use Rattle.promise.specs.Crash.{record_of, IsLedger, LedgerCodec, LedgerFits, MainStopped, Accepts, Writable, OneStep}
use Rattle.promise.specs.Promise.{Command, after}
use Rattle.promise.proofs.OrderLaws.{order-laws}
use Rattle.promise.proofs.Promises.{main-run}

ledger : (n : ℕ) → T (houses_ok n) → Codec entry_model
ledger n few = record {
  put = rec_bytes;
  get = λ bs. record_of (parse n bs);
  fits = λ r. rec_ok n r;
  began = few;
  size = λ r k. sized r;
  whole = λ r bs k. ap (λ (g : Got Rec). record_of g) (reads-back n r bs (is_true (rec_ok n r) k));
  torn = λ r b k l. ap (λ (g : Got Rec). record_of g) (cut_short n r b (is_true (rec_ok n r) k) l);
}

pub ledger-codec : LedgerCodec
unfolding ledger
ledger-codec n few = (ledger n few, record { writes = λ r. refl; reads = λ bs. refl; takes = λ r. refl })

pub ledger-fits : LedgerFits
ledger-fits n C few l =
    let fit : (r : Rec) → T (rec_ok n r) → T (C.fits r) = λ r k. subst⁻¹ (λ (b : Bool). T b) (l.takes r) k in
    record {
      orders = λ t k. (fit (Held t) (and_both (houses_ok n) (order_ok n t) few k), fit (Ruled t) (and_both (houses_ok n) (order_ok n t) few k));
      names = λ d k. (fit (Done d) (and_both (houses_ok n) (name_ok n d) few k), fit (Dropped d) (and_both (houses_ok n) (name_ok n d) few k));
    }

pub main-stopped : MainStopped
main-stopped n C m few k = let a = interrupted entry_model order-laws C n m few k in (a.0, a.1, main-run n a.0)

pub accepts-all : Accepts
accepts-all = accepts entry_model order-laws

-- what fits the ledger's format is within the limits
within : (n : ℕ) (C : Codec entry_model) → IsLedger n C → (rs : List Rec) → crash.AllFit C rs → AllFit n rs
within n C l [] y = tt
within n C l (r ∷ rs) y = (sym (l.takes r) ∙ is_true (C.fits r) y.0, within n C l rs y.1)

pub writable : Writable
writable n cs i few =
    let c = ledger-codec n few in
    within n c.0 c.1 ((after n cs).house i).file (files-fit entry_model order-laws c.0 n (ledger-fits n c.0 few c.1) cs i)

-- a house's file can be written, every first part of it opens, and it is no longer than a file may be
pub stops-openly : (n : ℕ) (cs : List Command) (i k : ℕ) → T (houses_ok n) →
    AllFit n ((after n cs).house i).file × (opens entry_model i (take k ((after n cs).house i).file) ≡ true) × (file_size entry_model ((after n cs).house i).file ≤ most_bytes)
stops-openly n cs i k few =
    let o = opens_at entry_model order-laws n cs i in
    (writable n cs i few, is_true (opens entry_model i (take k ((after n cs).house i).file)) (o.opened k), o.room)

pub one : OneStep
one = one-step entry_model
