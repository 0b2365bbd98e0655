pub mod PairFacts
