-- A function that came to stand elsewhere: what is counted through a whole program has other numbers, and all places are others.
use Rattle.std.specs.Prelude.{◌≡◌, ℕ, List, Some, map, option_map}
use Rattle.life_types.specs.declared.place.Place.{Place}
use Rattle.life_types.specs.declared.ty.NameId.{NameId}
use Rattle.life_core.specs.Function.{Function}
use Rattle.life_core.specs.Linked.{Linked, spot_of}
use Rattle.life_core.specs.Operands.{Source}
use Rattle.life_core.specs.Operands as named
use Rattle.life_core.specs.Step.{Step, Aim, Call}
use Rattle.life_core.specs.Tree.{Node, Action, Spot, Tree, Skip, Then, Acts, Asks, Both, Either, Negated, Choice, Turns, Breaks, Continues, Returns, Stops}
use Rattle.life_core.specs.declared.program.Local.{Local}
use Rattle.life_core.specs.declared.stmt.Point.{Point}
use Rattle.life_pset.specs.declared.element.Cause.{Cause}
use Rattle.life_pset.specs.declared.element.CauseKind.{CauseKind}
use Rattle.life_pset.specs.declared.element.CauseKind.TheVariants.{Called}
use Rattle.life_pset.specs.declared.element.Element.{Element}
use Rattle.life_pset.specs.declared.element.Element.TheVariants as element
use Rattle.life_pset.specs.declared.element.Fact.{Fact}
use Rattle.life_contract.specs.Breaking.{Break, Dangles}
use Rattle.life_contract.specs.Signatures.{Signature}
use Rattle.life_contract.specs.declared.param.Param.{Param}
use Rattle.life_rules.specs.Callees.{callee_at}
use Rattle.life_rules.specs.declared.diag.Diag.{Diag}
use Rattle.life_rules.specs.declared.diag.Why.{Why}
use Rattle.life_rules.specs.declared.diag.Why.TheVariants as why

-- the numbers that names, texts and functions get, and the places in the file
pub record Renaming : Type 0 where
  pub name : NameId → NameId
  pub text : ℕ → ℕ
  pub function : ℕ → ℕ
  pub place : Place → Place

-- ---- functions

abbrev pub moved_local : Renaming → Local → Local
moved_local r l = record { name = option_map r.name l.name; ty = l.ty; kind = l.kind; place = r.place l.place; nonnull = l.nonnull; keeps = l.keeps }

abbrev pub moved_source : Renaming → Source → Source
moved_source r (named.Text n) = named.Text (r.text n)
moved_source r s = s

abbrev pub moved_step : Renaming → Step → Step
moved_step r (Aim p s) = Aim p (moved_source r s)
moved_step r (Call target g xs) = Call target (record { 0 = r.function g.0 }) xs
moved_step r i = i

abbrev pub moved_node : Renaming → Node → Node
moved_node r (Action i) = Action (moved_step r i)
moved_node r n = n

-- what stands at a point, and where control goes from it: where it went
abbrev pub moved_spot : Renaming → Spot → Spot
moved_spot r s = record { node = moved_node r s.node; place = r.place s.place }

abbrev pub moved_linked : Renaming → Linked → Linked
moved_linked r l = record { spot = moved_spot r l.spot; leads = l.leads }

abbrev pub moved_tree : Renaming → Tree → Tree
moved_tree r Skip = Skip
moved_tree r (Then a b) = Then (moved_tree r a) (moved_tree r b)
moved_tree r (Acts place i) = Acts (r.place place) (moved_step r i)
moved_tree r (Asks place t) = Asks (r.place place) t
moved_tree r (Both a b) = Both (moved_tree r a) (moved_tree r b)
moved_tree r (Either a b) = Either (moved_tree r a) (moved_tree r b)
moved_tree r (Negated a) = Negated (moved_tree r a)
moved_tree r (Choice t a b) = Choice (moved_tree r t) (moved_tree r a) (moved_tree r b)
moved_tree r (Turns t body step) = Turns (moved_tree r t) (moved_tree r body) (moved_tree r step)
moved_tree r Breaks = Breaks
moved_tree r Continues = Continues
moved_tree r (Returns place) = Returns (r.place place)
moved_tree r (Stops place) = Stops (r.place place)

-- the same function elsewhere: its types, its locals and its statements are what they were
abbrev pub moved_function : Renaming → Function → Function
moved_function r f = record {
  name = r.name f.name;
  place = r.place f.place;
  parameters = f.parameters;
  result = f.result;
  promise = f.promise;
  locals = map (moved_local r) f.locals;
  body = moved_tree r f.body;
}

-- ---- signatures

abbrev pub moved_parameter : Renaming → Param → Param
moved_parameter r p = record { name = option_map r.name p.name; ty = p.ty; nonnull = p.nonnull; keeps = p.keeps }

abbrev pub moved_signature : Renaming → Signature → Signature
moved_signature r sig = record {
  name = r.name sig.name;
  place = r.place sig.place;
  parameters = map (moved_parameter r) sig.parameters;
  result = sig.result;
  promise = sig.promise;
}

-- what the function calls has its signatures, under their new numbers, among those
abbrev pub CallsMoved : Renaming → (these those : List Signature) → Function → Type 0
CallsMoved r these those f =
    (point : Point) (s : Spot) → spot_of f point ≡ Some s → callee_at those (moved_node r s.node) ≡ option_map (moved_signature r) (callee_at these s.node)

-- ---- facts

-- what a cause is about: a local, or the function that was called
abbrev pub moved_root : Renaming → CauseKind → ℕ → ℕ
moved_root r Called g = r.function g
moved_root r _ x = x

abbrev pub moved_cause : Renaming → Cause → Cause
moved_cause r c = record { kind = c.kind; place = r.place c.place; root = moved_root r c.kind c.root }

abbrev pub moved_element : Renaming → Element → Element
moved_element r (element.Invalid c) = element.Invalid (moved_cause r c)
moved_element r (element.Moved c) = element.Moved (moved_cause r c)
moved_element r e = e

abbrev pub moved_fact : Renaming → Fact → Fact
moved_fact r x = record { location = x.location; element = moved_element r x.element }

-- what an argument breaks
abbrev pub moved_break : Renaming → Break → Break
moved_break r (Dangles c) = Dangles (moved_cause r c)
moved_break r b = b

-- ---- diagnostics

abbrev pub moved_why : Renaming → Why → Why
moved_why r why.Null = why.Null
moved_why r (why.Cause c) = why.Cause (moved_cause r c)
moved_why r (why.Overlap name) = why.Overlap (r.name name)
moved_why r (why.Points e) = why.Points (moved_element r e)

abbrev pub moved_diag : Renaming → Diag → Diag
moved_diag r d = record {
  function = r.function d.function;
  place = r.place d.place;
  kind = d.kind;
  name = d.name;
  called = option_map r.function d.called;
  why = moved_why r d.why;
}
