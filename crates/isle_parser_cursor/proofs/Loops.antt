-- A loop that reads a list: what was read before, with what is still read, is the whole list.
use Rattle.std.proofs.Common.{◌≡◌, Bool, true, false, List, [], ◌∷◌, ◌++◌, Option, Some, None, refl, sym, ap, ◌∙◌, append_assoc}
use Rattle.std.proofs.lemmas.List.{append-nil}
use Rattle.isle_base.specs.Place.{Placed}
use Rattle.isle_parser_cursor.specs.declared.cursor.Stop.{Stop}
use Rattle.isle_parser_cursor.specs.Outcomes.{CursorSource, Stops}
use Rattle.isle_parser_cursor.specs.Reading.{Reader, ◌>>=◌, many}
use Rattle.isle_parser_cursor.proofs.Readers.{Shrinks, many_step}
use Rattle.isle_parser_cursor.specs.declared.cursor.Stop.TheVariants as stops

-- a list with this one before it
abbrev pub behind_front : {A : Type 0} → List A → Option (List A × List Placed) → Option (List A × List Placed)
behind_front front read = read >>= λ x. Some (front ++ x.0, x.1)

regroup : {A : Type 0} (front : List A) (x : A) (read : Option (List A × List Placed)) → behind_front front (read >>= λ xs. Some (x ∷ xs.0, xs.1)) ≡ behind_front (front ++ x ∷ []) read
regroup front x None = refl
regroup {A} front x (Some xs) = ap (λ (ys : List A). Some (ys, xs.1)) (simp append_assoc)

-- the list goes on with this node
pub loop_push : {A : Type 0} (read : Reader A) (stop : List Placed → Bool) → Shrinks read → (front : List A) (all rest : List Placed) (x : A) (total : Option (List A × List Placed)) → stop all ≡ false
    → read all ≡ Some (x, rest) → behind_front front (many stop read all) ≡ total → behind_front (front ++ x ∷ []) (many stop read rest) ≡ total
loop_push read stop shrinks front all rest x total here e so_far =
    let one : behind_front front (many stop read all) ≡ behind_front (front ++ x ∷ []) (many stop read rest) = rw (many_step read stop shrinks all, here, e) (regroup front x (many stop read rest)) in
    sym one ∙ so_far

-- the next node isn't read
pub loop_none : {A : Type 0} (read : Reader A) (stop : List Placed → Bool) → Shrinks read → (front : List A) (all : List Placed) (total : Option (List A × List Placed)) → stop all ≡ false
    → read all ≡ None → behind_front front (many stop read all) ≡ total → total ≡ None
loop_none read stop shrinks front all total here e so_far =
    let one : behind_front front (many stop read all) ≡ None = rw (many_step read stop shrinks all, here, e) refl in
    sym so_far ∙ one

pub loop_stops : {A : Type 0} (read : Reader A) (stop : List Placed → Bool) → Shrinks read → (front : List A) (all : List Placed) (total : Option (List A × List Placed)) (s : CursorSource) (e : Stop)
    → stop all ≡ false → Stops (read all) s e → behind_front front (many stop read all) ≡ total → Stops total s e
loop_stops read stop shrinks front all total s (stops.Parser e) here h so_far = (loop_none read stop shrinks front all total here h.0 so_far, h.1)
loop_stops read stop shrinks front all total s stops.Memory here h so_far = tt

-- the list ends here
pub loop_end : {A : Type 0} (read : Reader A) (stop : List Placed → Bool) → Shrinks read → (front : List A) (all : List Placed) (total : Option (List A × List Placed)) → stop all ≡ true
    → behind_front front (many stop read all) ≡ total → total ≡ Some (front, all)
loop_end {A} read stop shrinks front all total here so_far =
    let one : behind_front front (many stop read all) ≡ Some (front, all) = rw (many_step read stop shrinks all, here) (ap (λ (ys : List A). Some (ys, all)) (append-nil front)) in
    sym so_far ∙ one

pub loop_begin : {A : Type 0} (read : Option (List A × List Placed)) → behind_front [] read ≡ read
loop_begin None = refl
loop_begin (Some x) = refl

-- a node made of a list
abbrev pub made : {A B : Type 0} → (List A → B) → Option (List A × List Placed) → Option (B × List Placed)
made make read = read >>= λ xs. Some (make xs.0, xs.1)

-- a node made of a list that isn't read isn't read
pub made_stops : {A B : Type 0} (make : List A → B) (read : Option (List A × List Placed)) (s : CursorSource) (e : Stop) → Stops read s e → Stops (made make read) s e
made_stops make read s (stops.Parser e) h = (rw h.0 refl, h.1)
made_stops make read s stops.Memory h = tt

-- a node made of a list that is read
pub made_end : {A B : Type 0} (make : List A → B) (read : Option (List A × List Placed)) (xs : List A) (rest : List Placed) → read ≡ Some (xs, rest) → made make read ≡ Some (make xs, rest)
made_end make read xs rest e = rw e refl
