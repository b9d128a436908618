use Rattle.std.proofs.Common.{◌≡◌, ℕ, List, [], sym, refl, ap, ◌∙◌}
use Rattle.std.proofs.lemmas.List.Sums.{fold_push}
use Rattle.orders.specs.declared.read.ReadError.{ReadError}
use Rattle.orders.specs.declared.read.ReadError.TheVariants.{Cut, Refused}
use Rattle.orders.specs.Order.{Rec}
use Rattle.orders.specs.Parse.{parse}
use Rattle.orders.specs.Values.{rec_of}
use Rattle.orders.specs.Answers.{failed}
use Rattle.orders.specs.File.{Ended, start, next}
use Rattle.scan.specs.Checksum.{plus_rec}
use Rattle.scan.proofs.checksum.scan_checksum.Goals as goal

-- where the reader fails, no further record is read
ended : (n : ℕ) (xs : List ℕ) (why : ReadError) → failed {A = Rec} why ≡ parse n xs → Ended n xs
ended n xs Cut e r rest f = cc
ended n xs (Refused k) e r rest f = cc

pub loop-record-init : goal.loop-record-init
loop-record-init c = ([], start, refl)

pub loop-record-preserved : goal.loop-record-preserved
loop-record-preserved c =
    let rs = c.loop-record.invariant.0 in
    let r = rec_of c.in-Ok.record c.record_into.new.order in (
      _,
      next rs _ _ r c.loop-record.invariant.1 (sym c.in-Ok.ensures.value),
      c.add_record-sum.ensures ∙ ap (λ s. plus_rec s r) c.loop-record.invariant.2 ∙ sym (fold_push plus_rec 0 rs r),
    )

pub returns : goal.returns
returns c = (c.loop-record.invariant.0, _, c.loop-record.invariant.1, ended c.args.houses _ c.in_default.field-0 c.in_default.ensures.value, c.loop-record.invariant.2)
