use Rattle.std.proofs.Common.{◌≡◌, ◌/◌, ◌∙◌, ap, ℕ, List, [], ◌∷◌, get_or, take, drop}
use Rattle.std.specs.Simd.{first_chunks}
use Rattle.frame_server.specs.Frame.{number_of}
use Rattle.frame_server.proofs.reading.head_in.Goals as goal

pub returns : goal.returns
unfolding number_of
returns c =
    let bytes = c.args.bytes.now in
    let two : c.as_chunks.result.0.now ≡ take 8 bytes ∷ take 8 (drop 8 bytes) ∷ [] =
    c.as_chunks.ensures.front ∙ ap (λ (n : ℕ). first_chunks 8 (n / 8) bytes) c.requires in
    record {
      header = c.from_le_bytes.ensures ∙ ap (λ (l : List (List ℕ)). number_of (get_or l 0 [])) two;
      values = c.from_le_bytes-2.ensures ∙ ap (λ (l : List (List ℕ)). number_of (get_or l 1 [])) two;
    }
