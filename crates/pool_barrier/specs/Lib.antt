pub use Rattle.atomic_table.specs.Table
pub use Rattle.atomic_table.specs.Seated
pub mod Limits
pub mod Views
pub mod BarrierWord
pub mod Shares
pub mod Notifications
pub mod Laws
