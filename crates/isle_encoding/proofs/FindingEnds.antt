-- Where the encodings of notes and findings end.
use Rattle.std.proofs.Common.{◌≡◌, ℕ, List, ◌++◌}
use Rattle.isle_check_messages.specs.Notes.{NoteNode}
use Rattle.isle_encoding.specs.Numbers.{flag, list, number}
use Rattle.isle_encoding.specs.Names.{position, text}
use Rattle.isle_encoding.proofs.Ends.{flag_ends, list_ends, number_ends, parts_2, parts_5}
use Rattle.isle_encoding.proofs.NameEnds.{position_ends, text_ends}
use Rattle.isle_encoding.specs.findings.Encoded.{ToldNode, encoded, finding, note, version}

note_ends : (x y : NoteNode) (r s : List ℕ) → note x ++ r ≡ note y ++ s → (x ≡ y) × (r ≡ s)
note_ends x y r s same =
    let parts = parts_2 (position x.pos) (text x.message) (position y.pos) (text y.message)
    r s same in
    let v0 = position_ends x.pos y.pos _ _ parts in
    let v1 = text_ends x.message y.message _ _ v0.1 in
    ((λ i. record { pos = v0.0 i; message = v1.0 i }), v1.1)

finding_ends : (x y : ToldNode) (r s : List ℕ) → finding x ++ r ≡ finding y ++ s → (x ≡ y) × (r ≡ s)
finding_ends x y r s same =
    let parts = parts_5 (flag x.is_error) (text x.name) (position x.pos) (text x.message) (list note x.notes)
    (flag y.is_error) (text y.name) (position y.pos) (text y.message) (list note y.notes)
    r s same in
    let v0 = flag_ends x.is_error y.is_error _ _ parts in
    let v1 = text_ends x.name y.name _ _ v0.1 in
    let v2 = position_ends x.pos y.pos _ _ v1.1 in
    let v3 = text_ends x.message y.message _ _ v2.1 in
    let v4 = list_ends note note_ends x.notes y.notes _ _ v3.1 in
    ((λ i. record { is_error = v0.0 i; name = v1.0 i; pos = v2.0 i; message = v3.0 i; notes = v4.0 i }), v4.1)

pub encoded_ends : (a b : List ToldNode) (r s : List ℕ) → encoded a ++ r ≡ encoded b ++ s → (a ≡ b) × (r ≡ s)
encoded_ends a b r s same =
    let parts = parts_2 (number version) (list finding a) (number version) (list finding b)
    r s same in
    let v0 = number_ends version version _ _ parts in
    list_ends finding finding_ends a b r s v0.1
