use Rattle.std.proofs.Common.{◌≡◌, map, vec_items, Err, sym, ◌∙◌, subst, rules}
use Rattle.audit_search.specs.Audited.{AllOpened, StandTo}
use Rattle.audit_search.proofs.Files.{files-count, files-below, file-at}
use Rattle.audit_search.proofs.Stand.{stand-none, stand-more, stand-refused}
use Rattle.audit_search.proofs.houses.Houses.open.Goals as goal

pub loop-house-init : goal.loop-house-init
loop-house-init c = subst (StandTo 0 (map vec_items c.args.files.now)) (sym c.new-all.ensures.items) (stand-none (map vec_items c.args.files.now))

pub returns-in_err-open : goal.returns-in_err-open
returns-in_err-open c =
    let e : c.from_residual.result ≡ Err c.in_err-open.field-0.0 = search rules in
    subst (AllOpened (map vec_items c.args.files.now)) (sym e)
    (stand-refused (map vec_items c.args.files.now) c.loop-house.house _ c.as_slice.result.now (c.requires.all ∙ files-count c.args.files.now)
    (file-at c.args.files.now _ c.index-files-house.result _ c.loop-house-test.true c.index-files-house.is c.as_slice.ensures.value) (vec_items c.loop-house.all) c.loop-house.invariant
    (files-below c.args.files.now _ c.loop-house-test.true) c.in_err-open.field-0.0 c.in_err-open.ensures)

pub loop-house-preserved : goal.loop-house-preserved
loop-house-preserved c =
    stand-more (map vec_items c.args.files.now) c.loop-house.house _ c.as_slice.result.now (c.requires.all ∙ files-count c.args.files.now)
    (file-at c.args.files.now _ c.index-files-house.result _ c.loop-house-test.true c.index-files-house.is c.as_slice.ensures.value) (vec_items c.loop-house.all) c.loop-house.invariant
    c.in_ok-open.field-0 _ c.in_ok-open.ensures c.in_ok-push.ensures.items
