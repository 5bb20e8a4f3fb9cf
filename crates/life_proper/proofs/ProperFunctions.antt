-- What the checker lets through is ready on every way.
use Rattle.std.proofs.Common.{◌≡◌, ◌&&◌, ℕ, zero, suc, List, [], ◌∷◌, Option, Some, None, IsSome, Contains, is_none, refl, sym, ◌∙◌, subst, arith}
use Rattle.std.proofs.lemmas.Bool.{and_parts, false≢true}
use Rattle.std.proofs.lemmas.Option.{same_Some}
use Rattle.std.specs.Prelude.{IsTrue}
use Rattle.std.specs.List.{list_all}
use Rattle.life_types.specs.Types.{Types}
use Rattle.life_core.specs.Function.{Function, Program}
use Rattle.life_core.specs.Linked.{Lead, Linked, code_of, enter, no_exits, numbered}
use Rattle.life_core.specs.Proper.{HaveReadyWays, HasReadyWays, IsReadyProgram, LeadOn, Reaches, bits_past, goes_on, starts}
use Rattle.life_core.specs.Ready.{Ready, entry_ready}
use Rattle.life_core.specs.Shape.{is_statement, tests_straight}
use Rattle.life_proper.specs.Checking.{Flow, body_flow, checked, is_checked, is_over}
use Rattle.life_proper.specs.Knowing.{State, entry_known}
use Rattle.life_proper.proofs.Meeting.{meets_all}
use Rattle.life_proper.proofs.Ways.{AllCome, AllSound, Answers, Comes, Covers, Found, IsShaped, IsSound, Leaves, Serves, Stands, entered, found, sound, statement_shaped}

-- ---- no way leads out

no_way : (Q : ℕ → Ready → Type 0) (s : State) (to : Option ℕ) → IsTrue (is_none s) → Serves Q s to
no_way Q None to e bits m = absurd m
no_way Q (Some k) to e bits m = absurd (false≢true e)

record IsOver (w : Flow) : Type 0 where
  fine : IsTrue w.fine
  next : IsTrue (is_none w.next)
  on_break : IsTrue (is_none w.on_break)
  on_continue : IsTrue (is_none w.on_continue)
  on_true : IsTrue (is_none w.on_true)
  on_false : IsTrue (is_none w.on_false)

over : (w : Flow) → IsTrue (is_over w) → IsOver w
over w e =
    let a = and_parts w.fine _ e in
    let b = and_parts (is_none w.next) _ a.1 in
    let c = and_parts (is_none w.on_break) _ b.1 in
    let d = and_parts (is_none w.on_continue) _ c.1 in
    let g = and_parts (is_none w.on_true) _ d.1 in
    record { fine = a.0; next = b.0; on_break = c.0; on_continue = d.0; on_true = g.0; on_false = g.1 }

-- ---- ways out of a point

lead_comes : (Q : ℕ → Ready → Type 0) (bits : Ready) (ls : List Lead) (lead : Lead) → AllCome Q bits ls → Contains ls lead → Comes Q lead.to bits
lead_comes Q bits [] lead h (k, below, is) = absurd (omega (arith, below))
lead_comes Q bits (l ∷ ls) lead h (zero, below, is) = subst (λ (w : Lead). Comes Q w.to bits) is h.0
lead_comes Q bits (l ∷ ls) lead h (suc k, below, is) = lead_comes Q bits ls lead h.1 (k, omega (arith, below), is)

comes_some : (Q : ℕ → Ready → Type 0) (bits : Ready) (to : Option ℕ) → Comes Q to bits → IsSome to
comes_some Q bits None h = absurd h
comes_some Q bits (Some p) h = refl

leads_on : (Q : ℕ → Ready → Type 0) (bits : Ready) (ls : List Lead) → AllCome Q bits ls → LeadOn ls
leads_on Q bits [] h = tt
leads_on Q bits (l ∷ ls) h = (comes_some Q bits l.to h.0, leads_on Q bits ls h.1)

-- ---- every way from the entry

at_number : (code : List Linked) (p : ℕ) (l : Linked) → Found code 1 p l → numbered code p ≡ Some l
at_number code p l h =
    let is : p ≡ suc h.place = omega (arith, h.is) in
    subst (λ (q : ℕ). numbered code q ≡ Some l) (sym is) h.there

-- the point is reached with bits of which is true what is known there
pub record Stood (types : Types) (f : Function) (p : ℕ) (bits : Ready) : Type 0 where
  pub link : Linked
  pub at : numbered (code_of f) p ≡ Some link
  pub stands : Stands types f f.body 1 (Some (entry_known f)) no_exits p link bits

module _ (types : Types) (f : Function) (e : IsTrue (is_checked types f)) where
  outer : IsTrue (is_statement f.body) × IsTrue (tests_straight f.body && is_over (body_flow types f))
  outer = and_parts (is_statement f.body) (tests_straight f.body && is_over (body_flow types f)) e

  inner : IsTrue (tests_straight f.body) × IsTrue (is_over (body_flow types f))
  inner = and_parts (tests_straight f.body) (is_over (body_flow types f)) outer.1

  ends : IsOver (body_flow types f)
  ends = over (body_flow types f) inner.1

  abbrev Q : ℕ → Ready → Type 0
  Q = Stood types f

  shaped : IsShaped f.body
  shaped = statement_shaped f.body outer.0

  out : Leaves types f Q (body_flow types f) no_exits
  out = (no_way Q _ None ends.next, no_way Q _ None ends.on_break, no_way Q _ None ends.on_continue)

  answers : Answers types f Q (body_flow types f) no_exits
  answers = (no_way Q _ None ends.on_true, no_way Q _ None ends.on_false)

  covers : Covers types f Q f.body 1 (Some (entry_known f)) no_exits
  covers p l bits h = record {
    link = l;
    at = at_number (code_of f) p l (found types f f.body 1 (Some (entry_known f)) no_exits p l bits h);
    stands = h;
  }

  begins : Comes Q (enter f.body 1 no_exits) (entry_ready f)
  begins = entered types f Q f.body 1 (Some (entry_known f)) no_exits shaped out covers (entry_ready f) (meets_all (entry_ready f))

  all_sound : AllSound types f Q f.body 1 (Some (entry_known f)) no_exits
  all_sound = sound types f Q f.body 1 (Some (entry_known f)) no_exits shaped out answers covers ends.fine

  sound_at : (p : ℕ) (bits : Ready) (l : Linked) → Stood types f p bits → numbered (code_of f) p ≡ Some l → IsSound types f Q bits l
  sound_at p bits l here at = subst (IsSound types f Q bits) (same_Some here.link l (sym here.at ∙ at)) (all_sound p here.link bits here.stands)

  pub reached : (p : ℕ) (bits : Ready) → Reaches types f p bits → Stood types f p bits
  reached p _ (starts is) = subst (λ (to : Option ℕ). Comes Q to (entry_ready f)) is begins
  reached q _ (goes_on {p} {bits} {l} {lead} before at among to) =
      let here = sound_at p bits l (reached p bits before) at in
      subst (λ (o : Option ℕ). Comes Q o (bits_past types f l.spot.node bits)) to (lead_comes Q (bits_past types f l.spot.node bits) l.leads lead here.leads among)

  pub proper : HasReadyWays types f
  proper = record {
    statement = outer.0;
    straight = inner.0;
    begins = comes_some Q (entry_ready f) (enter f.body 1 no_exits) begins;
    ready = λ p bits l way at. (sound_at p bits l (reached p bits way) at).ready;
    leads_on = λ p bits l way at. leads_on Q (bits_past types f l.spot.node bits) l.leads (sound_at p bits l (reached p bits way) at).leads;
  }

all_proper : (types : Types) (fs : List Function) → IsTrue (list_all (is_checked types) fs) → HaveReadyWays types fs
all_proper types [] e = tt
all_proper types (f ∷ fs) e =
    let both = and_parts (is_checked types f) (list_all (is_checked types) fs) e in
    (proper types f both.0, all_proper types fs both.1)

pub ready_program : (p : Program) → IsTrue (checked p) → IsReadyProgram p
ready_program p e = all_proper p.types p.functions e
