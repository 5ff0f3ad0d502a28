pub mod Ending
pub mod History
pub mod Notes
pub mod Parting
pub mod Serving
pub mod Streams
-- for the private clauses of tensor_runner and frame_server
pub mod Pieces
pub mod Server
pub mod Taking
