-- From what clap says of a parse to what the words ask for.
use Rattle.std.proofs.Common.{◌≡◌, ◌∙◌, List, [], ◌∷◌, true, Result, Ok, Err, ap, inl, refl, subst}
use Rattle.clap.specs.Words.{App, IsAmong, Kinds, Row, Text, fault_of, is_simple, is_simple_and_free, matches_of}
use Rattle.clap.specs.declared.error.kind.ErrorKind.{ErrorKind}
use Rattle.clap.specs.declared.error.kind.ErrorKind.TheVariants as kind
use Rattle.clap.proofs.OnLiterals.{clap_on_literals}
use Rattle.life_job.specs.Command.{lifecheck}
use Rattle.life_job.specs.Job.{Job}
use Rattle.life_job.specs.Matched.{Checked, job_in}
use Rattle.life_job.specs.Refusals.{Help, IsToldOf, Lacking, Named, Told, Version, told_wrong}
use Rattle.life_job.specs.Words.{Fault, IsToldOfAsked, IsToldOfFault, asked_of, asked_where, matched}

pub simple : is_simple lifecheck ≡ true
unfolding clap_on_literals lifecheck
simple = refl

pub simple_and_free : is_simple_and_free lifecheck ≡ true
unfolding clap_on_literals lifecheck
simple_and_free = refl

rows_where : (ks : Kinds) (rows : List Row) → ks ≡ [] → matched rows (job_in rows) ≡ asked_where ks rows
rows_where [] rows e = refl
rows_where (k ∷ ks) rows e = cc

told_where : (ks : Kinds) (rows : List Row) (k : ErrorKind) (told : Told) → IsAmong k ks → IsToldOf k told → IsToldOfAsked (asked_where ks rows) told
told_where [] rows k told h is = absurd h
told_where (x ∷ xs) rows k told h is = record { kind = k; among = h; is = is }

-- no fault, and the rows that the words give
pub asked_ok : (app : App) (words : List Text) (rows : List Row) → app ≡ lifecheck → fault_of app words ≡ [] → rows ≡ matches_of app words
    → matched rows (job_in rows) ≡ asked_of words
unfolding asked_of
asked_ok app words rows same none is =
    let none' : fault_of lifecheck words ≡ [] = subst (λ (a : App). fault_of a words ≡ []) same none in
    let is' : rows ≡ matches_of lifecheck words = subst (λ (a : App). rows ≡ matches_of a words) same is in
    ap (λ (r : List Row). matched r (job_in r)) is' ∙ rows_where (fault_of lifecheck words) (matches_of lifecheck words) none'

-- a fault other than want of memory
pub told_fault : (app : App) (words : List Text) (k : ErrorKind) (told : Told) → app ≡ lifecheck → IsAmong k (fault_of app words) → IsToldOf k told
    → IsToldOfAsked (asked_of words) told
unfolding asked_of
told_fault app words k told same among is =
    told_where (fault_of lifecheck words) (matches_of lifecheck words) k told (subst (λ (a : App). IsAmong k (fault_of a words)) same among) is

-- ---- there is always something to tell

abbrev pub SomeTold : Result Job Fault → Type 0
SomeTold (Ok job) = Unit {0}
SomeTold (Err fault) = (told : Told) × IsToldOfFault fault told

told_of_kind : (k : ErrorKind) → (told : Told) × IsToldOf k told
told_of_kind kind.DisplayHelp = (Help, refl)
told_of_kind kind.DisplayVersion = (Version, refl)
told_of_kind kind.MissingRequiredArgument = (Lacking, refl)
told_of_kind _ = (Named [], ([], refl))

told_matched : (rows : List Row) (checked : Checked Job) → SomeTold (matched rows checked)
told_matched rows (Ok job) = tt
told_matched rows (Err wrong) = (told_wrong wrong rows, refl)

told_asked : (ks : Kinds) (rows : List Row) → SomeTold (asked_where ks rows)
told_asked [] rows = told_matched rows (job_in rows)
told_asked (k ∷ ks) rows = let told = told_of_kind k in (told.0, record { kind = k; among = inl refl; is = told.1 })

pub some_told : (words : List Text) → SomeTold (asked_of words)
unfolding asked_of
some_told words = told_asked (fault_of lifecheck words) (matches_of lifecheck words)
