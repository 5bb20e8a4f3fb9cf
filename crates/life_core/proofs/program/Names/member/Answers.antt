use Rattle.std.proofs.Common.{rules, ◌<◌, length, Some, slice_index_or, Vec, Global, ap, subst, sym, ◌∙◌}
use Rattle.life_types.specs.declared.ty.NameId.{NameId}
use Rattle.life_core.proofs.MemberLemmas.{member_is, member_there, struct_there}
use Rattle.life_core.proofs.program.Names.member.Goals as goal

pub index-names-requires : goal.index-names-requires
index-names-requires c = let there : c.args.number < length c.args.self.now.members.items = struct_there c.args.self.now.members.items c.args.number c.args.member c.requires in search (rules, there)

pub index-requires : goal.index-requires
index-requires c =
    let there : c.args.member < length c.index-names.result.now.items =
    subst (λ (names : Vec NameId Global). c.args.member < length names.items) (sym c.index-names.ensures)
    (member_there c.args.self.now.members.items c.args.number c.args.member c.index-names.result.now c.requires) in
    search (rules, there)

pub returns : goal.returns
returns c =
    member_is c.args.self.now.members.items c.args.number c.args.member c.index-names.result.now c.index.result.now c.requires
    ∙ ap Some (ap (λ (names : Vec NameId Global). slice_index_or names.items c.args.member c.index.result.now) (sym c.index-names.ensures) ∙ sym c.index.ensures)
