use Rattle.std.proofs.Common.{◌∙◌, ◌+◌, ◌++◌, ap, sym, map, drop, get_or, arith}
use Rattle.std.proofs.lemmas.List.{at_drop_more}
use Rattle.life_keys.specs.Keys.{tokens_from, tables_from}
use Rattle.life_lex.specs.Answers.{lexeme}
use Rattle.life_keys.proofs.KeyedSteps.{number_fits, same_token, tokens_step, names_bound, texts_bound}
use Rattle.life_keys.proofs.tokens.keyed.Goals as goal

pub key-requires-clause-number : goal.key-requires-clause-number
key-requires-clause-number c = number_fits c.args.lexed.now c.loop-token.token-index _ c.loop-token-test.true c.requires.numbers

pub loop-token-preserved : goal.loop-token-preserved
loop-token-preserved c =
    let t = get_or c.args.lexed.now c.loop-token.token-index _ in
    let tokens = at_drop_more (λ ts. c.loop-token.tokens.items ++ tokens_from c.loop-token.keyer (map lexeme ts)) c.args.lexed.now c.loop-token.token-index _ c.loop-token-test.true in
    let tables = at_drop_more (λ ts. tables_from c.loop-token.keyer (map lexeme ts)) c.args.lexed.now c.loop-token.token-index _ c.loop-token-test.true in (
      tokens_step c.loop-token.keyer c.key.new.self (lexeme t) (map lexeme (drop (c.loop-token.token-index + 1) c.args.lexed.now)) c.loop-token.tokens.items c.push.new.self.items _ _ (sym tokens ∙ c.loop-token.invariant.0) c.in_ok-push.ensures.items (same_token _ _ _ c.in_ok-key.ensures.key) c.in_ok-key.ensures.tables,
      ap (λ k. tables_from k (map lexeme (drop (c.loop-token.token-index + 1) c.args.lexed.now))) c.in_ok-key.ensures.tables ∙ sym tables ∙ c.loop-token.invariant.1,
      rw c.in_ok-key.ensures.tables (omega (arith, names_bound c.loop-token.keyer t.kind t.text.now, c.loop-token.invariant.2)),
      rw c.in_ok-key.ensures.tables (omega (arith, texts_bound c.loop-token.keyer t.kind t.text.now, c.loop-token.invariant.3)),
    )
