use Rattle.std.proofs.Common.{◌≡◌, true, false, Some, None, Err, vec_items, ap, sym, ◌∙◌, rules}
use Rattle.std.specs.Option.{option_map}
use Rattle.orders.specs.declared.Refusal.TheVariants.{NotPending}
use Rattle.home.specs.Rulings.{ruling}
use Rattle.home.proofs.Rules.{rule-none, rule-some}
use Rattle.home.proofs.memory.Home.may_rule.Goals as goal

pub returns-in_err-asked : goal.returns-in_err-asked
returns-in_err-asked c =
    let n : c.find.result ≡ None = search rules in
    let e : c.from_residual.result ≡ Err NotPending = search rules in
    ap ruling e ∙ rule-none c.args.name (vec_items c.args.self.now.asking) (sym (ap (option_map (λ a. a.now)) n) ∙ c.find.ensures)

pub returns-then-all_yes : goal.returns-then-all_yes
returns-then-all_yes c =
    let s : c.find.result ≡ Some c.in_ok-asked.asked = search rules in
    rule-some c.args.name (vec_items c.args.self.now.asking) c.in_ok-asked.asked.now true (sym (ap (option_map (λ a. a.now)) s) ∙ c.find.ensures) c.if-all_yes.ensures

pub returns-else-all_yes : goal.returns-else-all_yes
returns-else-all_yes c =
    let s : c.find.result ≡ Some c.in_ok-asked.asked = search rules in
    rule-some c.args.name (vec_items c.args.self.now.asking) c.in_ok-asked.asked.now false (sym (ap (option_map (λ a. a.now)) s) ∙ c.find.ensures) c.if-all_yes.ensures
