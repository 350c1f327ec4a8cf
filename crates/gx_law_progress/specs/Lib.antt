pub mod LoneRounds
