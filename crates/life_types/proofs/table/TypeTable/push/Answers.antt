use Rattle.std.proofs.Common.{[], length, ap, sym, ◌∙◌}
use Rattle.std.proofs.lemmas.Map.Entries.{length-keys_of}
use Rattle.life_types.specs.Types.{Types}
use Rattle.life_types.proofs.FactLemmas.{added}
use Rattle.life_types.proofs.Numbers.{each_once}
use Rattle.life_types.proofs.table.TypeTable.push.Goals as goal

pub returns-in_err-insert-clause-once : goal.returns-in_err-insert-clause-once
returns-in_err-insert-clause-once c = each_once _ [] c.insert.ensures.unique

pub invariant_of-self-2 : goal.invariant_of-self-2
invariant_of-self-2 c = (added c.self.inside.types.entries c.self.inside.structs.items c.self.invariant c.args.ty c.facts_of-facts.result c.args.self.now c.self.view_is c.requires.parts c.requires.room c.requires.absent c.facts_of-facts.ensures c.insert.new.self.entries c.in_ok-insert.ensures.entries).kept

pub returns-clause-number : goal.returns-clause-number
returns-clause-number c =
    (added c.self.inside.types.entries c.self.inside.structs.items c.self.invariant c.args.ty c.facts_of-facts.result c.args.self.now c.self.view_is c.requires.parts c.requires.room c.requires.absent c.facts_of-facts.ensures c.insert.new.self.entries c.in_ok-insert.ensures.entries).last c.len-next.result
    (c.len-next.ensures.len ∙ sym (length-keys_of c.self.inside.types.entries) ∙ ap (λ (table : Types). length table.types) c.self.view_is)

pub returns-clause-grown : goal.returns-clause-grown
returns-clause-grown c = (added c.self.inside.types.entries c.self.inside.structs.items c.self.invariant c.args.ty c.facts_of-facts.result c.args.self.now c.self.view_is c.requires.parts c.requires.room c.requires.absent c.facts_of-facts.ensures c.insert.new.self.entries c.in_ok-insert.ensures.entries).grown

pub returns-clause-made : goal.returns-clause-made
returns-clause-made c =
    (added c.self.inside.types.entries c.self.inside.structs.items c.self.invariant c.args.ty c.facts_of-facts.result c.args.self.now c.self.view_is c.requires.parts c.requires.room c.requires.absent c.facts_of-facts.ensures c.insert.new.self.entries c.in_ok-insert.ensures.entries).made (record { 0 = c.len-next.result })
    (c.len-next.ensures.len ∙ sym (length-keys_of c.self.inside.types.entries) ∙ ap (λ (table : Types). length table.types) c.self.view_is)

pub returns-clause-trees : goal.returns-clause-trees
returns-clause-trees c = (added c.self.inside.types.entries c.self.inside.structs.items c.self.invariant c.args.ty c.facts_of-facts.result c.args.self.now c.self.view_is c.requires.parts c.requires.room c.requires.absent c.facts_of-facts.ensures c.insert.new.self.entries c.in_ok-insert.ensures.entries).trees

pub returns-clause-once : goal.returns-clause-once
returns-clause-once c = each_once _ [] c.insert.ensures.unique
