use Rattle.std.proofs.Common.{◌+◌, ◌*◌, arith, sym, subst, ◌∙◌, ap}
use Rattle.std.proofs.lemmas.List.{get_or_read}
use Rattle.life_store.specs.Content.{Object, word_at}
use Rattle.life_store.specs.References.{HasWord}
use Rattle.life_store.proofs.LaidOut.{slot_within, word_within}
use Rattle.life_store.proofs.SlotLemmas.{word_is}
use Rattle.life_store.proofs.plain_object.PlainObject.get.Goals as goal

pub index-requires : goal.index-requires
index-requires c =
    let has = subst (HasWord c.args.slot c.args.word) (sym c.self.view_is) c.requires in
    omega (arith, word_within c.self.inside c.args.slot c.args.word c.self.invariant has, c.self.inside.words.ok.0)

pub returns : goal.returns
returns c =
    let a = c.self.inside in
    let has = subst (HasWord c.args.slot c.args.word) (sym c.self.view_is) c.requires in
    let at = c.args.slot * a.width + c.args.word in
    let within = word_within a c.args.slot c.args.word c.self.invariant has in
    get_or_read a.words.items at c.index.result.now within c.index.ensures 0
    ∙ sym (word_is a.width a.words.items a.stamps.items c.args.slot c.args.word (slot_within a c.args.slot c.args.word has) has.has_word)
    ∙ ap (λ (o : Object). word_at o c.args.slot c.args.word) c.self.view_is
