use Rattle.std.proofs.Common.{◌≡◌, map, length, vec_items, Err, sym, ap, ◌∙◌, subst, rules}
use Rattle.protocol.specs.Model.{houses_ok}
use Rattle.audit_search.specs.Search.{done_fault, ruling_fault}
use Rattle.audit_search.specs.Audited.{Answered, bad_count, accounts}
use Rattle.audit_search.proofs.Files.{files-count}
use Rattle.audit_search.proofs.Found.{many, found-done, found-ruling, all-sound}
use Rattle.audit_search.proofs.examine.Goals as goal
use Rattle.audit_search.proofs.examine.Goals.{in_default-via-in-Ok+else-houses_ok, in_default-via-in_default}

pub returns-in_default : goal.returns-in_default
returns-in_default c = bad_count (ap houses_ok (sym (files-count c.args.files.now)) ∙ elim c.in_default.branch [
  | in_default-via-in-Ok+else-houses_ok w ↦ ap houses_ok (sym w.in-Ok.ensures.1) ∙ sym w.if-houses_ok.ensures
  | in_default-via-in_default w ↦ many (length c.args.files.now) w.in_default.ensures
])

pub returns-in_err-check_files : goal.returns-in_err-check_files
returns-in_err-check_files c =
    let e : c.from_residual-in_err-check_files.result ≡ Err c.in_err-check_files.field-0.0 = search rules in
    let hs = c.in_ok-houses.houses in
    subst (Answered (map vec_items c.args.files.now)) (sym e)
    (found-done (map vec_items c.args.files.now) hs c.in_ok-houses.ensures _ (c.in-Ok.ensures.1 ∙ files-count c.args.files.now) c.in_err-check_files.field-0.0 (c.in_err-check_files.ensures (done_fault (accounts hs)) (λ h r s x q. search rules)))

pub returns-in_err-check_files-2 : goal.returns-in_err-check_files-2
returns-in_err-check_files-2 c =
    let e : c.from_residual-in_err-check_files-2.result ≡ Err c.in_err-check_files-2.field-0.0 = search rules in
    let hs = c.in_ok-houses.houses in
    subst (Answered (map vec_items c.args.files.now)) (sym e)
    (found-ruling (map vec_items c.args.files.now) hs c.in_ok-houses.ensures _ (c.in-Ok.ensures.1 ∙ files-count c.args.files.now) (c.in_ok-check_files.ensures (done_fault (accounts hs)) (λ h r s x q. search rules))
    c.in_err-check_files-2.field-0.0 (c.in_err-check_files-2.ensures (λ i. ruling_fault (accounts hs)) (λ h r s x q. search rules)))

pub returns : goal.returns
returns c =
    let hs = c.in_ok-houses.houses in
    all-sound (map vec_items c.args.files.now) hs c.in_ok-houses.ensures _ (c.in-Ok.ensures.1 ∙ files-count c.args.files.now) (c.in_ok-check_files.ensures (done_fault (accounts hs)) (λ h r s x q. search rules))
    (c.in_ok-check_files-2.ensures (λ i. ruling_fault (accounts hs)) (λ h r s x q. search rules)) c.in_ok-stocked.field-0 c.in_ok-stocked.ensures
