use Rattle.std.proofs.Common.{refl, ◌∙◌}
use Rattle.ledger.specs.View.{view}
use Rattle.ledger.proofs.Replay.{read_none, read-end, read-long, read-wrong, replay_refused, read_fits, read_more}
use Rattle.ledger.proofs.Ledger.replay.Goals as goal
use Rattle.ledger.proofs.Ledger.replay.Goals.{then-next-gt-MAX_BYTES-via-then-next-gt-MAX_BYTES, then-next-gt-MAX_BYTES-via-else-next-gt-MAX_BYTES+then-not-admits}

pub loop-record-init : goal.loop-record-init
loop-record-init c = (read_none c.args.houses c.args.self.now.house c.args.bytes.now (view c.args.self.now c.args.shelves.now) c.requires.house c.requires.empty, refl)

pub returns-in_default : goal.returns-in_default
returns-in_default c = record {
  answer = read-end c.args.houses c.args.self.now.house c.args.bytes.now (view c.loop-record.self c.loop-record.shelves) c.record_at-read.result c.end_of.result c.loop-record.invariant.0 c.record_at-read.ensures.value c.in_default.not-Ok c.end_of.ensures;
  house = c.loop-record.invariant.1;
}

pub returns-then-next-gt-MAX_BYTES : goal.returns-then-next-gt-MAX_BYTES
returns-then-next-gt-MAX_BYTES c = record {
  answer =
      replay_refused _ _ _ (view c.loop-record.self c.loop-record.shelves) _ _ c.into.ensures
      (elim c.then-next-gt-MAX_BYTES.branch [
        | then-next-gt-MAX_BYTES-via-then-next-gt-MAX_BYTES w ↦ read-long _ _ _ c.type_inv.bytes c.loop-record.self.house c.loop-record.invariant.1 _ c.loop-record.invariant.0 _ _ c.in-Ok.ensures.value c.in-Ok.ensures.next w.if-next-gt-MAX_BYTES.true
        | then-next-gt-MAX_BYTES-via-else-next-gt-MAX_BYTES+then-not-admits w ↦ read-wrong _ _ _ c.type_inv.bytes c.loop-record.self.house c.loop-record.invariant.1 _ c.loop-record.invariant.0 _ _ c.in-Ok.ensures.value c.in-Ok.ensures.next w.if-not-admits.ensures
      ]);
  house = c.loop-record.invariant.1;
}

pub apply-requires : goal.apply-requires
apply-requires c = read_fits _ _ _ c.type_inv.bytes c.loop-record.self.house c.loop-record.invariant.1 _ c.loop-record.invariant.0 _ _ c.in-Ok.ensures.value c.in-Ok.ensures.next c.if-next-gt-MAX_BYTES.false c.if-not-admits.ensures

pub loop-record-preserved : goal.loop-record-preserved
loop-record-preserved c = (
  read_more _ _ _ c.type_inv.bytes c.loop-record.self.house c.loop-record.invariant.1 _ c.loop-record.invariant.0 _ _ c.in-Ok.ensures.value c.in-Ok.ensures.next c.if-next-gt-MAX_BYTES.false c.if-not-admits.ensures _ c.in_ok-apply.ensures.view,
  c.in_ok-apply.ensures.house ∙ c.loop-record.invariant.1,
)
