use Rattle.std.proofs.Common.{sym}
use Rattle.life_store.proofs.StoreLemmas.{live_words_are}
use Rattle.life_store.proofs.plain.PlainStoreStore.live_words.Goals as goal

pub returns : goal.returns
returns c = sym (live_words_are c.self.inside c.args.self.now c.self.invariant c.self.view_is)
