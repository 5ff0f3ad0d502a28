pub mod Answer
pub mod Frame
pub mod Limited
pub mod LimitedEnding
pub mod NotedFrames
pub mod Stream
pub mod private
