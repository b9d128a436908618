-- Names in order: by home, then start, then number. Assumes nothing.
use Rattle.std.specs.declared.cmp.Ordering.{Ordering}
use Rattle.std.specs.Ordering.{nat_cmp, ordering_then}
use Rattle.std.specs.Cmp.{IsTotalOrder, nat_cmp_total, on_total, then_total}
use Rattle.protocol.specs.declared.Name.{Name}

-- how `derive(Ord)` compares two names: by home, then start, then number
abbrev pub name_cmp : Name → Name → Ordering
name_cmp a b = ordering_then (nat_cmp a.home b.home) (ordering_then (nat_cmp a.start b.start) (nat_cmp a.number b.number))

-- that is a total order
abbrev pub names : IsTotalOrder name_cmp
names = then_total (on_total (λ (n : Name). n.home) nat_cmp_total) (then_total (on_total (λ (n : Name). n.start) nat_cmp_total) (on_total (λ (n : Name). n.number) nat_cmp_total))
