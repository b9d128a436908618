-- Entries that are searched by fours. Assumes nothing.
use Rattle.std.proofs.Common.{◌≡◌, ℕ, zero, suc, ◌*◌, ◌||◌, List, take, drop, sym, refl, ap, ◌∙◌, arith, drop-drop, take-append-drop}
use Rattle.std.specs.Simd.{first_chunks}
use Rattle.std.specs.List.{list_any}
use Rattle.std.proofs.Math.Bool.{or_assoc}
use Rattle.std.proofs.lemmas.List.Folds.{list_any-append}
use Rattle.orders.specs.declared.Entry.{Entry}
use Rattle.orders.specs.Order.{touches}

-- the first n fours, and what is behind them
pub by-fours : (k n : ℕ) (es : List Entry) → touches k es ≡ (list_any (touches k) (first_chunks 4 n es) || touches k (drop (n * 4) es))
by-fours k zero es = refl
by-fours k (suc n) es =
    let rest : drop (n * 4) (drop 4 es) ≡ drop (suc n * 4) es = drop-drop (n * 4) 4 es ∙ ap (λ i. drop i es) (omega arith) in
    ap (touches k) (sym (take-append-drop 4 es))
    ∙ list_any-append _ (take 4 es) (drop 4 es)
    ∙ ap (λ b. touches k (take 4 es) || b) (by-fours k n (drop 4 es) ∙ ap (λ ds. list_any (touches k) (first_chunks 4 n (drop 4 es)) || touches k ds) rest)
    ∙ sym (or_assoc (touches k (take 4 es)) (list_any (touches k) (first_chunks 4 n (drop 4 es))) (touches k (drop (suc n * 4) es)))
