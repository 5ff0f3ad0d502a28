-- The frames of a stream, and the answers to them.
use Rattle.std.specs.Prelude.{◌≡◌, ◌⊎◌, ◌^◌, ◌<◌, ℕ, List, [], ◌++◌, All, length}
use Rattle.std.specs.Prelude.{Option, Some, IfSome}
use Rattle.std.specs.Int.{w64}
use Rattle.std.specs.Prelude.{FitsSigned}
use Rattle.std.specs.List.{concat}
use Rattle.message_server.specs.Serving.{Framing}
use Rattle.message_server.specs.Serving as messages
use Rattle.message_server.specs.Streams.{HasFailed}
use Rattle.frame_server.specs.Frame.{Frame, frame_bytes, frame_in, IsWhole, IsUnfinished}

-- the bytes are these whole frames, one behind the other, followed by a proper prefix of a frame or
-- by nothing
pub record IsParted (bytes : List ℕ) (frames : List (List ℕ)) (cut : List ℕ) : Type 0 where
  pub joined : bytes ≡ concat frames ++ cut
  pub whole : All IsWhole frames
  pub unfinished : IsUnfinished cut

-- bytes are frames followed by a prefix of a frame in at most one way
abbrev pub PartsInOneWay : Type 0
PartsInOneWay =
    (bytes : List ℕ) (frames others : List (List ℕ)) (cut other : List ℕ)
    → IsParted bytes frames cut → IsParted bytes others other
    → (frames ≡ others) × (cut ≡ other)

-- the sizes and the values of a frame fit into 64 bits each
pub record Fits (f : Frame) : Type 0 where
  pub header : length f.header < 2 ^ 64
  pub values : length f.values < 2 ^ 64
  pub ranges : All (FitsSigned w64) f.values

-- reading the bytes of a frame gives this frame again
abbrev pub ReadsAsWritten : Type 0
ReadsAsWritten =
    (f : Frame) → Fits f → IsWhole (frame_bytes f) × (frame_in (frame_bytes f) ≡ f)

-- these frames are the whole frames in the bytes
abbrev pub AreWholeFrames : List ℕ → List (List ℕ) → Type 0
AreWholeFrames bytes frames = (cut : List ℕ) × IsParted bytes frames cut

-- the stream ends after a whole frame, and the sink holds what it held before, followed by the
-- answers to all frames of the stream
pub record AnswersAll {A : Type 0} (f : Framing A) (stream held : List ℕ)
    (contents : Option (List ℕ)) : Type 0 where
  pub frames : List (List ℕ)
  pub parted : IsParted stream frames []
  pub answered : messages.Answers f frames held contents

-- the writing stopped: the sink holds what it held before, followed by a proper prefix of the
-- answers to some frames with which the stream begins
pub record CutsSome {A : Type 0} (f : Framing A) (stream held : List ℕ)
    (contents : Option (List ℕ)) : Type 0 where
  pub frames : List (List ℕ)
  pub rest : List ℕ
  pub joined : stream ≡ concat frames ++ rest
  pub whole : All IsWhole frames
  pub short : messages.CutsShort f frames held contents

-- the stream ends inside a frame, after its first byte, and all of the stream was read
pub record EndsInside (remaining : Option (List ℕ)) (stream : List ℕ) : Type 0 where
  pub frames : List (List ℕ)
  pub cut : List ℕ
  pub parted : IsParted stream frames cut
  pub some : 0 < length cut
  pub nothing : remaining ≡ Some []

-- the reading stopped: either a read failed, or the bytes ended inside a frame. `failed` and
-- `fails` are the numbers of failed reads before and after.
abbrev pub StopsReading : ℕ → ℕ → Option (List ℕ) → Option (List ℕ) → Type 0
StopsReading failed fails before after =
    HasFailed failed fails ⊎ ((fails ≡ failed) × IfSome before (EndsInside after))
