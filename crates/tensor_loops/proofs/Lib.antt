pub mod Chains
pub mod CombinedRows
pub mod Folding
pub mod RunValues
pub mod InterleavedParts
pub mod Inverses
pub mod TiledPlaces
pub mod TiledValues
