-- The laws of the rules that a plan stands on.
pub use Rattle.life_rules.proofs.OneFact.{ones}
pub use Rattle.life_rules.proofs.TwoFacts.{twos}
pub use Rattle.life_rules.proofs.Kept.{IsKeptAt, kept}
