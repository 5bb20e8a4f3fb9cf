use Rattle.std.proofs.Common.{ℕ, sym, ◌∙◌, ap}
use Rattle.life_store.specs.declared.object.Shape.{Shape}
use Rattle.life_store.proofs.SlotLemmas.{slots_length}
use Rattle.life_store.proofs.plain_object.PlainObject.shape.Goals as goal

pub returns-clause-shape : goal.returns-clause-shape
returns-clause-shape c =
    let a = c.self.inside in
    let shaped : ℕ → Shape = λ n. record { ty = a.ty; length = n; capacity = a.capacity } in
    rw (← c.self.view_is) (ap shaped (c.len.ensures ∙ a.stamps.ok.0 ∙ sym (slots_length a.width a.words.items a.stamps.items)))
