-- What a tree of a form is made of.
use Rattle.std.proofs.Common.{◌≡◌, ℕ, ◌⊎◌, inl, inr, refl, ap, subst}
use Rattle.life_tree.specs.Grammar.{Form, none, no_else, quoted, name, number, character, text, ◌then◌, ◌decides◌, ◌or◌, many, opens, rule, form_of, Conforms, TokenFits}
use Rattle.life_tree.specs.Rules.{Rule}
use Rattle.life_tree.specs.Tree.{Tree, nothing, without_else, token, ◌⨾◌, construct, node}
use Rattle.life_tree.specs.declared.key.TokenKey.{TokenKey}
use Rattle.life_tree.specs.declared.key.TokenKey.TheVariants as keys
use Rattle.life_types.specs.declared.place.Place.{Place}

-- ---- one or the other

pub or_fits : (t : Tree) (f g : Form) → Conforms t (f or g) → Conforms t f ⊎ Conforms t g
or_fits nothing f g c = c
or_fits without_else f g c = c
or_fits (token (keys.Fixed n) place) f g c = c
or_fits (token (keys.Name n) place) f g c = c
or_fits (token (keys.Number n) place) f g c = c
or_fits (token (keys.Char n) place) f g c = c
or_fits (token (keys.Text n) place) f g c = c
or_fits (a ⨾ b) f g c = c
or_fits (construct n place t) f g c = c
or_fits (node r t) f g c = c

pub fits_or : (t : Tree) (f g : Form) → Conforms t f ⊎ Conforms t g → Conforms t (f or g)
fits_or nothing f g c = c
fits_or without_else f g c = c
fits_or (token (keys.Fixed n) place) f g c = c
fits_or (token (keys.Name n) place) f g c = c
fits_or (token (keys.Number n) place) f g c = c
fits_or (token (keys.Char n) place) f g c = c
fits_or (token (keys.Text n) place) f g c = c
fits_or (a ⨾ b) f g c = c
fits_or (construct n place t) f g c = c
fits_or (node r t) f g c = c

-- ---- tokens are of few forms

no_token_then : (key : TokenKey) (place : Place) (f g : Form) → TokenFits key place (f then g) → ⊥
no_token_then (keys.Fixed n) place f g c = c
no_token_then _ place f g c = c

no_token_decides : (key : TokenKey) (place : Place) (f : Form) (g : Tree → Form) → TokenFits key place (f decides g) → ⊥
no_token_decides (keys.Fixed n) place f g c = c
no_token_decides _ place f g c = c

no_token_many : (key : TokenKey) (place : Place) (f : Form) → TokenFits key place (many f) → ⊥
no_token_many (keys.Fixed n) place f c = c
no_token_many _ place f c = c

no_token_opens : (key : TokenKey) (place : Place) (m : ℕ) (f : Form) → TokenFits key place (opens m f) → ⊥
no_token_opens (keys.Fixed n) place m f c = c
no_token_opens _ place m f c = c

no_token_rule : (key : TokenKey) (place : Place) (r : Rule) → TokenFits key place (rule r) → ⊥
no_token_rule (keys.Fixed n) place r c = c
no_token_rule _ place r c = c

no_token_none : (key : TokenKey) (place : Place) → TokenFits key place none → ⊥
no_token_none (keys.Fixed n) place c = c
no_token_none _ place c = c

no_token_no_else : (key : TokenKey) (place : Place) → TokenFits key place no_else → ⊥
no_token_no_else (keys.Fixed n) place c = c
no_token_no_else _ place c = c

-- ---- two parts

pub then_parts : (t : Tree) (f g : Form) → Conforms t (f then g) → (a : Tree) × (b : Tree) × (t ≡ a ⨾ b) × Conforms a f × Conforms b g
then_parts (a ⨾ b) f g c = (a, b, refl, c.0, c.1)
then_parts (token key place) f g c = absurd (no_token_then key place f g c)
then_parts _ f g c = absurd c

pub decides_parts : (t : Tree) (f : Form) (g : Tree → Form) → Conforms t (f decides g) → (a : Tree) × (b : Tree) × (t ≡ a ⨾ b) × Conforms a f × Conforms b (g a)
decides_parts (a ⨾ b) f g c = (a, b, refl, c.0, c.1)
decides_parts (token key place) f g c = absurd (no_token_decides key place f g c)
decides_parts _ f g c = absurd c

-- ---- the others

pub many_parts : (t : Tree) (f : Form) → Conforms t (many f) → (t ≡ nothing) ⊎ ((a : Tree) × (b : Tree) × (t ≡ a ⨾ b) × Conforms a f × Conforms b (many f))
many_parts nothing f c = inl refl
many_parts (a ⨾ b) f c = inr (a, b, refl, c.0, c.1)
many_parts (token key place) f c = absurd (no_token_many key place f c)
many_parts _ f c = absurd c

pub opens_parts : (t : Tree) (m : ℕ) (f : Form) → Conforms t (opens m f) → (place : Place) × (u : Tree) × (t ≡ construct m place u) × Conforms u f
opens_parts (construct n place u) m f c = (place, u, ap (λ (i : ℕ). construct i place u) c.0, c.1)
opens_parts (token key place) m f c = absurd (no_token_opens key place m f c)
opens_parts _ m f c = absurd c

pub rule_parts : (t : Tree) (r : Rule) → Conforms t (rule r) → (u : Tree) × (t ≡ node r u) × Conforms u (form_of r)
rule_parts (node s u) r c = (u, ap (λ (i : Rule). node i u) c.0, subst (λ (i : Rule). Conforms u (form_of i)) c.0 c.1)
rule_parts (token key place) r c = absurd (no_token_rule key place r c)
rule_parts _ r c = absurd c

pub none_is : (t : Tree) → Conforms t none → t ≡ nothing
none_is nothing c = refl
none_is (token key place) c = absurd (no_token_none key place c)
none_is _ c = absurd c

pub no_else_is : (t : Tree) → Conforms t no_else → t ≡ without_else
no_else_is without_else c = refl
no_else_is (token key place) c = absurd (no_token_no_else key place c)
no_else_is _ c = absurd c

pub quoted_is : (t : Tree) (m : ℕ) → Conforms t (quoted m) → (place : Place) × (t ≡ token (keys.Fixed m) place)
quoted_is (token (keys.Fixed n) place) m c = (place, ap (λ (i : ℕ). token (keys.Fixed i) place) c)
quoted_is (token key place) m c = absurd c
quoted_is _ m c = absurd c

-- a token of a kind that no rule quotes
pub name_is : (t : Tree) → Conforms t name → (key : TokenKey) × (place : Place) × (t ≡ token key place) × TokenFits key place name
name_is (token key place) c = (key, place, refl, c)
name_is _ c = absurd c

pub number_is : (t : Tree) → Conforms t number → (key : TokenKey) × (place : Place) × (t ≡ token key place) × TokenFits key place number
number_is (token key place) c = (key, place, refl, c)
number_is _ c = absurd c

pub character_is : (t : Tree) → Conforms t character → (key : TokenKey) × (place : Place) × (t ≡ token key place) × TokenFits key place character
character_is (token key place) c = (key, place, refl, c)
character_is _ c = absurd c

pub text_is : (t : Tree) → Conforms t text → (key : TokenKey) × (place : Place) × (t ≡ token key place) × TokenFits key place text
text_is (token key place) c = (key, place, refl, c)
text_is _ c = absurd c
