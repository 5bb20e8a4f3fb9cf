use Rattle.std.proofs.Common.{◌∷◌, [], map, ap, ◌∙◌, arith}
use Rattle.std.proofs.lemmas.List.{length-map, map-append}
use Rattle.life_lex.specs.Answers.{lexeme}
use Rattle.life_lex.specs.Cursors.{start}
use Rattle.life_lex.specs.Readings.{whole, broken}
use Rattle.life_lex.proofs.NumbersFit.{numbers_fit}
use Rattle.life_lex.proofs.Slices.{slices_of_reading}
use Rattle.life_lex.proofs.Steps.{first_none, first_more, first_only}
use Rattle.life_lex.proofs.TokenCount.{token_count}
use Rattle.life_lex.proofs.token_list.tokens_of_file.Goals as goal

pub loop-token-init : goal.loop-token-init
loop-token-init c = first_none (start c.args.source.now) c.new-lexer.result _ (ap (map lexeme) c.in_ok-tokens.ensures.items) c.new-lexer.ensures

pub loop-token-preserved : goal.loop-token-preserved
loop-token-preserved c =
    let next = rw c.in-Ok-Some.field-0-is at c.in-Ok-Some.ensures.reading in
    let pushed = ap (map lexeme) c.in_ok-push-in-Ok-Some.ensures.items ∙ map-append lexeme c.loop-token.tokens.items (c.in-Ok-Some.token ∷ []) in
    first_more (start c.args.source.now) c.loop-token.lexer c.next.new.self (map lexeme c.loop-token.tokens.items) (map lexeme c.push.new.self.items) (lexeme c.in-Ok-Some.token) c.loop-token.invariant next pushed

pub returns-in-Ok-None-clause-tokens : goal.returns-in-Ok-None-clause-tokens
returns-in-Ok-None-clause-tokens c =
    let last = rw c.in-Ok-None.field-0-is at c.in-Ok-None.ensures.reading in
    first_only (start c.args.source.now) c.loop-token.lexer (map lexeme c.loop-token.tokens.items) whole c.loop-token.invariant last.0

pub returns-in-Ok-None-clause-numbers : goal.returns-in-Ok-None-clause-numbers
returns-in-Ok-None-clause-numbers c =
    let last = rw c.in-Ok-None.field-0-is at c.in-Ok-None.ensures.reading in
    let all = first_only (start c.args.source.now) c.loop-token.lexer (map lexeme c.loop-token.tokens.items) whole c.loop-token.invariant last.0 in
    numbers_fit (start c.args.source.now) (map lexeme c.loop-token.tokens.items) whole all.0

pub returns-in-Ok-None-clause-count : goal.returns-in-Ok-None-clause-count
returns-in-Ok-None-clause-count c =
    let last = rw c.in-Ok-None.field-0-is at c.in-Ok-None.ensures.reading in
    let all = first_only (start c.args.source.now) c.loop-token.lexer (map lexeme c.loop-token.tokens.items) whole c.loop-token.invariant last.0 in
    omega (arith, length-map c.loop-token.tokens.items lexeme, token_count c.args.source.now (map lexeme c.loop-token.tokens.items) whole all.0)

pub returns-in-Ok-None-clause-slices : goal.returns-in-Ok-None-clause-slices
returns-in-Ok-None-clause-slices c =
    let last = rw c.in-Ok-None.field-0-is at c.in-Ok-None.ensures.reading in
    let all = first_only (start c.args.source.now) c.loop-token.lexer (map lexeme c.loop-token.tokens.items) whole c.loop-token.invariant last.0 in
    slices_of_reading c.args.source.now (map lexeme c.loop-token.tokens.items) whole all.0

pub returns-in-Err-clause-fault : goal.returns-in-Err-clause-fault
returns-in-Err-clause-fault c =
    (map lexeme c.loop-token.tokens.items, first_only (start c.args.source.now) c.loop-token.lexer (map lexeme c.loop-token.tokens.items) (broken c.in-Err.fault) c.loop-token.invariant c.in-Err.ensures.reading.0)
