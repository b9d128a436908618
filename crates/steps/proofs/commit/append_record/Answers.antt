use Rattle.std.proofs.Common.{◌≡◌, Ok, rules, ℕ, List, replicate, subst}
use Rattle.orders.specs.Encode.{rec_bytes}
use Rattle.orders.specs.Values.{rec_of}
use Rattle.steps.specs.Hosts.{Appends}
use Rattle.steps.proofs.Commits.{written}
use Rattle.steps.proofs.commit.append_record.Goals as goal

pub returns : goal.returns
returns g c =
    let x = g.H.Host.world c.args.host.now in
    let y = g.H.Host.world c.append.new.self in
    let is : c.write.result ≡ Ok c.in_ok-len.len = search rules in
    subst (λ (bs : List ℕ). Appends bs x y c.append.result) (written (rec_bytes (rec_of c.args.record c.args.order.now)) (replicate 268 0) c.write.new.out c.in_ok-len.len c.write.result is c.write.ensures.value c.write.ensures.after) c.append.ensures
