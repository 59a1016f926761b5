pub mod LawsChains
