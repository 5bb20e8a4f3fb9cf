use Rattle.std.proofs.Common.{List, arith, sym, subst, ap}
use Rattle.life_store.specs.Content.{Object, Slot}
use Rattle.life_store.specs.References.{HasWord}
use Rattle.life_store.proofs.LaidOut.{slot_within, word_within}
use Rattle.life_store.proofs.SlotLemmas.{word_written}
use Rattle.life_store.proofs.plain_object.PlainObject.put.Goals as goal

pub index_mut-requires : goal.index_mut-requires
index_mut-requires c =
    let has = subst (HasWord c.args.slot c.args.word) (sym c.self.view_is) c.requires in
    omega (arith, word_within c.self.inside c.args.slot c.args.word c.self.invariant has, c.self.inside.words.ok.0)

pub returns : goal.returns
returns c =
    let a = c.self.inside in
    let has = subst (HasWord c.args.slot c.args.word) (sym c.self.view_is) c.requires in
    let laid : List Slot → Object = λ slots. record { ty = a.ty; width = a.width; capacity = a.capacity; slots = slots; end = a.end } in
    rw (← c.self.view_is)
    (ap laid (word_written a.width a.words.items a.stamps.items c.args.slot c.args.word c.args.value (slot_within a c.args.slot c.args.word has) has.has_word))
