use Rattle.std.proofs.Common.{◌≡◌, Bool, false, List, [], map, replicate, vec_items, refl, ap, ◌∙◌, rules}
use Rattle.home.specs.declared.asked.Asked.{Asked}
use Rattle.home.specs.Memory.{asking_of, tried_of}
use Rattle.home.proofs.Marks.{tried-none}
use Rattle.home.proofs.memory.Home.new.Goals as goal

pub invariant_of-result : goal.invariant_of-result
invariant_of-result c = record { room = c.in_ok-asking.ensures.capacity; marks = c.in_ok-tried.ensures.len }

pub returns : goal.returns
returns c =
    let a : vec_items c.in_ok-asking.asking ≡ [] = search rules in
    let t : vec_items c.in_ok-tried.tried ≡ replicate 65536 false = c.in_ok-tried.ensures.items_if_clones_equal (λ y h. h) in (
      λ i. record {
        asking = ap (λ (xs : List Asked). map asking_of xs) a i;
        tried = (ap (λ (marks : List Bool). tried_of c.args.house c.args.start marks) t ∙ tried-none c.args.house c.args.start 65536) i;
      },
      refl,
      refl,
    )
