-- What was read from a client of lines and written to it.
pub use Rattle.message_server.specs.History.{History, IsNew, reading, writing, after_read, after_write}
