-- What is made of a pointer is as short as that is.
use Rattle.std.proofs.Common.{ℕ, ◌+◌, ◌<◌, ◌≤◌, ◌≡◌, ◌^◌, sym, subst, arith}
use Rattle.life_store.specs.Content.{Content, CanCount}
use Rattle.life_store.specs.References.{Rows}
use Rattle.life_store.specs.Views.{seen_count}
use Rattle.life_pointers.specs.Pointers.{pointer_seen, starts_at, IsShort, PointerFits}
use Rattle.life_pointers.specs.declared.pointer.Pointer.{Pointer}
use Rattle.life_pointers.specs.declared.pointer.Pointer.TheVariants as leads

module _ (c : Content) (rows : Rows) where
  pub short_element : (p : Pointer) (i : ℕ) → PointerFits c rows p → i < seen_count (pointer_seen p) → IsShort (starts_at p + i + 1) p
  short_element leads.Null i fits lt = tt
  short_element leads.Wild i fits lt = tt
  short_element (leads.To index count word object moment) i fits lt = tt
  short_element (leads.Static s) i fits lt = let ends : s.index + s.count ≤ 2 ^ 63 = fits.1 in omega (arith, ends, lt)

  pub short_count : (p : Pointer) (i n : ℕ) → PointerFits c rows p → i + n ≤ seen_count (pointer_seen p) → IsShort (n + 1) p
  short_count leads.Null i n fits le = tt
  short_count leads.Wild i n fits le = tt
  short_count (leads.To index count word object moment) i n fits le = tt
  short_count (leads.Static s) i n fits le = let sees : s.count < 2 ^ 63 = fits.0 in omega (arith, sees, le)

  pub short_part : (p : Pointer) (i n : ℕ) → PointerFits c rows p → i + n ≤ seen_count (pointer_seen p) → IsShort (starts_at p + i + n) p
  short_part leads.Null i n fits le = tt
  short_part leads.Wild i n fits le = tt
  short_part (leads.To index count word object moment) i n fits le = tt
  short_part (leads.Static s) i n fits le = let ends : s.index + s.count ≤ 2 ^ 63 = fits.1 in omega (arith, ends, le)

  pub same_fits : (p q : Pointer) → q ≡ p → PointerFits c rows p → PointerFits c rows q
  same_fits p q e fits = subst (λ (x : Pointer). PointerFits c rows x) (sym e) fits

pub shorter : (m n : ℕ) (p : Pointer) → m ≤ n → IsShort n p → IsShort m p
shorter m n leads.Null le h = tt
shorter m n leads.Wild le h = tt
shorter m n (leads.To index count word object moment) le h = tt
shorter m n (leads.Static s) le h = omega arith

pub clock_fits : (c : Content) (now : ℕ) → now ≡ c.clock → CanCount c → now + 1 < 2 ^ 64
clock_fits c now e can = let k = can.clock in omega (arith, e, k)
