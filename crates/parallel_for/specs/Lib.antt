pub use Rattle.worker_pool.specs.Setup
pub mod Leaves
pub mod Items
pub mod Steps
pub mod Pieces
pub mod Divisions
pub mod Table
pub mod Faults
