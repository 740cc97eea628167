-- A frame at the front of a buffer.
use Rattle.std.proofs.Common.{◌≡◌, ℕ, ◌+◌, ◌≤◌, List, ◌++◌, length, drop, Ok, ap, ◌∙◌, rules}
use Rattle.std.proofs.lemmas.List.{drop-drop}
use Rattle.frame_header.specs.declared.header.Header.{Header}
use Rattle.frame_header.specs.Header.{header_octets}
use Rattle.wire.specs.Write.{put}

-- there is room: what is written, and behind it what stood there
pub put_is : (h : Header) (xs buffer front copied rest behind : List ℕ) → h.length ≤ 16384 → 9 + length xs ≤ length buffer
    → front ≡ header_octets h → copied ≡ xs → rest ≡ drop 9 buffer → behind ≡ drop (length xs) rest
    → (Ok (9 + length xs), front ++ (copied ++ behind)) ≡ put h xs buffer
put_is h xs buffer front copied rest behind short room e f g k =
    let is : behind ≡ drop (9 + length xs) buffer = k ∙ ap (drop (length xs)) g ∙ drop-drop (length xs) 9 buffer in
    rw (e, f, is) (search rules)
