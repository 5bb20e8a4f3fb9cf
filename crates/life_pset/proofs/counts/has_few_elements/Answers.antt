use Rattle.life_core.specs.Function.{function_of}
use Rattle.life_pset.proofs.CountLemmas.{few_elements_if}
use Rattle.life_pset.proofs.counts.has_few_elements.Goals as goal

pub returns : goal.returns
returns c =
    few_elements_if c.args.types.now (function_of c.args.f.now) c.in_ok-room.room c.room_after_objects-room.result c.room_after_caused-room.result c.deref.result.now c.deref-2.result.now
    c.deref.ensures.value c.deref-2.ensures.value c.room_after_caused-room.ensures c.room_after_objects-room.ensures c.in_ok-room.ensures
