use Rattle.std.proofs.Common.{◌<◌, length, vec_items, refl, rules}
use Rattle.std.proofs.lemmas.Bool.{lt-ltb}
use Rattle.home.specs.Memory.{memory_of}
use Rattle.home.proofs.Asks.{place-none, place-some, place-voted}
use Rattle.home.proofs.Ends.{refuses, accepts, votes, unasked}
use Rattle.home.proofs.memory.Home.vote.Goals as goal

pub returns-in_default : goal.returns-in_default
returns-in_default c =
    refuses _ _ _ _
    (unasked c.args.from c.args.name (memory_of c.args.self) (lt-ltb _ _ c.if-from-ge-HOUSES.false)
    (place-none c.args.name (vec_items c.args.self.asking) c.in_default.ensures))

pub returns : goal.returns
returns c =
    let l : c.args.from < length c.index_mut.result.now.yes = search rules in
    accepts _ _ _ _
    (votes c.args.from c.args.name (memory_of c.args.self) _ (lt-ltb _ _ c.if-from-ge-HOUSES.false)
    (place-some c.args.name (vec_items c.args.self.asking) c.in-Some.i c.in-Some.ensures).0
    (place-voted c.args.name c.args.from c.index_mut.result.now _ l refl refl (vec_items c.args.self.asking) c.in-Some.i c.in-Some.ensures c.index_mut.ensures.value)
    refl)
    refl refl
