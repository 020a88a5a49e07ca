-- One message more of a conversation.
use Rattle.std.proofs.Common.{◌≡◌, ◌≢◌, ◌≤◌, ℕ, ◌+◌, drop, List, [], ◌∷◌, ◌++◌, length, true, false, Option, None, Some, Result, Ok, Err, IfOk, String, map, string_bytes, refl, sym, ◌∙◌, ap, subst, inl, inr, ◌⊎◌, arith, append_assoc, append-nil}
use Rattle.std.specs.Global.{Vec}
use Rattle.std.specs.Io.KnownBytes.{Appends}
use Rattle.std.proofs.KnownBytes.{Appends-trans}
use Rattle.std.proofs.lemmas.List.{drop_all, take_all}
use Rattle.isle_cli.specs.Failure.{status_of}
use Rattle.isle_cli.specs.Streams.{AppendsBeginning}
use Rattle.isle_cli.specs.declared.failure.Failure.{Failure}
use Rattle.isle_cli.specs.declared.failure.Failure.TheVariants.{Refused, Usage, Input, Memory, Output}
use Rattle.isle_cli.proofs.StreamLemmas.{AppendsBeginning-behind, AppendsBeginning-front}
use Rattle.isle_lsp_frames.specs.Frames.{frame, frame_at, Fails}
use Rattle.isle_lsp_frames.specs.declared.frames.FrameFault.{FrameFault}
use Rattle.isle_lsp_frames.specs.declared.frames.FrameFault.TheVariants as faults
use Rattle.isle_lsp_frames.proofs.Whole.{none_at_end}
use Rattle.isle_lsp_protocol.specs.declared.machine.State.{State}
use Rattle.isle_lsp_protocol.specs.declared.machine.State.TheVariants.{Fresh, Running, ShutDown, Ended, Aborted}
use Rattle.serde_json.specs.Data.{Data}
use Rattle.std.specs.declared.alloc.Global.{Global}
use Rattle.isle_lsp_protocol.specs.Machine.{next_state, action_of}
use Rattle.isle_lsp_protocol.specs.declared.machine.Action.{Action}
use Rattle.isle_lsp_protocol.specs.Decoding.{Decodes, message_in}
use Rattle.isle_lsp_files.specs.Disks.{Moment, View}
use Rattle.isle_lsp.specs.Serving.{Held, Sends, Shows, asked, asked_first, documents_after, encoding_after, folders_after, takes_after, watches_after}
use Rattle.isle_lsp.specs.Conversations.{AnswersAs, AnswersWithin, Conversation, Converses, EndsAs, Explains, FromFault, IsCut, IsEarly, IsOver, IsRefusal, IsShort, Ran, ShowsWithin, StopsAt, World, answered, begun, frames, has_exited, nothing}

frames-append : (xs ys : List (List ℕ)) → frames (xs ++ ys) ≡ frames xs ++ frames ys
frames-append [] ys = refl
frames-append (x ∷ xs) ys = ap (λ l. frame x ++ l) (frames-append xs ys) ∙ sym (append_assoc (frame x) (frames xs) (frames ys))

pub appends_none : (a : Option (List ℕ)) → Appends a a []
appends_none None = tt
appends_none (Some x) = sym (append-nil x)

-- what is done with a message
pub prepared : {E : Type 0} (old new : Held) (body : List ℕ) (json : Option Data) (state : State) (action : Action) (opened view : View) (moments : List Moment) (middle left : Option (List Moment)) (r : Result (Vec (String Global)) E) → Decodes body json → state ≡ next_state old.state (message_in json) → action ≡ action_of old.state (message_in json) → ShowsWithin (asked_first action json) moments middle opened → new.state ≡ state → new.documents ≡ documents_after old.encoding action json opened old.documents → new.encoding ≡ encoding_after action json old.encoding → new.folders ≡ folders_after action json old.folders → new.takes_document_changes ≡ takes_after action json old.takes_document_changes → new.watches_files ≡ watches_after action json old.watches_files → ((between : List Moment) → middle ≡ Some between → ShowsWithin (asked action json new) between left view) → IfOk r (λ sent. Sends action json new view (map string_bytes sent.items)) → IfOk r (λ sent. AnswersWithin old moments body new left (map string_bytes sent.items))
prepared old new body json state action opened view moments middle left (Ok sent) d s t opens n docs encoding folders takes watches shows sends =
    let last = shows opens.0 opens.1 in (
      last.0,
      last.1,
      record {
        json = json;
        between = opens.0;
        opened = opened;
        view = view;
        decodes = d;
        opens = subst (λ u. Shows (asked_first u json) moments opens.0 opened) t opens.2;
        state = n ∙ s;
        documents = docs ∙ ap (λ u. documents_after old.encoding u json opened old.documents) t;
        encoding = encoding ∙ ap (λ u. encoding_after u json old.encoding) t;
        folders = folders ∙ ap (λ u. folders_after u json old.folders) t;
        takes = takes ∙ ap (λ u. takes_after u json old.takes_document_changes) t;
        watches = watches ∙ ap (λ u. watches_after u json old.watches_files) t;
        shows = subst (λ u. Shows (asked u json new) opens.0 last.0 view) t last.2;
        sends = subst (λ u. Sends u json new view (map string_bytes sent.items)) t sends;
      },
    )
prepared old new body json state action opened view moments middle left (Err e) d s t opens n docs encoding folders takes watches shows sends = tt

-- what is sent is written, or a beginning of it
pub answers_as : (old new : Held) (moments : List Moment) (left : Option (List Moment)) (body : List ℕ) (sent : List (List ℕ)) (before after : Option (List ℕ)) → AnswersWithin old moments body new left sent → Appends before after (frames sent) → AnswersAs old moments body new left before after
answers_as old new moments left body sent before after a w = (sent, a, w)

pub stops_at : (old new : Held) (moments : List Moment) (left : Option (List Moment)) (body : List ℕ) (sent : List (List ℕ)) (before after : Option (List ℕ)) → AnswersWithin old moments body new left sent → AppendsBeginning before after (frames sent) → StopsAt old moments body before after
stops_at old new moments left body sent before after a w = inr (new, a.0, sent, a.2, w)

-- ---- frames one after another

-- of these texts, those before a place are written
pub record HaveWritten (texts : List (String Global)) (i : ℕ) (before after : Option (List ℕ)) : Type 0 where
  pub front : List ℕ
  pub all : front ++ frames (map string_bytes (drop i texts)) ≡ frames (map string_bytes texts)
  pub written : Appends before after front

pub written_none : (texts : List (String Global)) (before : Option (List ℕ)) → HaveWritten texts 0 before before
written_none texts before = record { front = []; all = refl; written = appends_none before }

module _ (texts : List (String Global)) (i : ℕ) (text : String Global) (before middle after : Option (List ℕ)) (left : drop i texts ≡ text ∷ drop (i + 1) texts) (so_far : HaveWritten texts i before middle) where
  on : (so_far.front ++ frame (string_bytes text)) ++ frames (map string_bytes (drop (i + 1) texts)) ≡ frames (map string_bytes texts)
  on =
      append_assoc so_far.front (frame (string_bytes text)) (frames (map string_bytes (drop (i + 1) texts)))
      ∙ ap (λ ts. so_far.front ++ frames (map string_bytes ts)) (sym left) ∙ so_far.all

  pub written_more : Appends middle after (frame (string_bytes text)) → HaveWritten texts (i + 1) before after
  written_more w = record { front = so_far.front ++ frame (string_bytes text); all = on; written = Appends-trans before middle after so_far.front (frame (string_bytes text)) so_far.written w }

  pub written_part : AppendsBeginning middle after (frame (string_bytes text)) → AppendsBeginning before after (frames (map string_bytes texts))
  written_part w =
      subst (AppendsBeginning before after) on
      (AppendsBeginning-front before after (so_far.front ++ frame (string_bytes text)) (frames (map string_bytes (drop (i + 1) texts)))
      (AppendsBeginning-behind before middle after so_far.front (frame (string_bytes text)) so_far.written w))

pub written_all : (texts : List (String Global)) (i : ℕ) (before after : Option (List ℕ)) → length texts ≤ i → HaveWritten texts i before after → Appends before after (frames (map string_bytes texts))
written_all texts i before after past so_far =
    subst (Appends before after) (sym (append-nil so_far.front) ∙ ap (λ ts. so_far.front ++ frames (map string_bytes ts)) (sym (drop_all i texts past)) ∙ so_far.all) so_far.written

-- after `exit` the conversation is over
pub over : (state : State) (input : Option (List ℕ)) → has_exited state ≡ true → IsOver state input
over Fresh input h = let never : false ≡ true = h in absurd (cc)
over Running input h = let never : false ≡ true = h in absurd (cc)
over ShutDown input h = let never : false ≡ true = h in absurd (cc)
over Ended input h = inl refl
over Aborted input h = inr (inl refl)

-- how far the conversation has come
pub record Runs (world : World) (held : Held) (input : Option (List ℕ)) (disk : Option (List Moment)) (before after : Option (List ℕ)) : Type 0 where
  pub rest : World
  pub texts : List (List ℕ)
  pub left : input ≡ Some rest.bytes
  pub shown : disk ≡ Some rest.moments
  pub conversation : Conversation world held rest texts
  pub written : Appends before after (frames texts)

pub runs_start : (world : World) (held : Held) (input : Option (List ℕ)) (disk : Option (List Moment)) (before : Option (List ℕ)) → held ≡ nothing → input ≡ Some world.bytes → disk ≡ Some world.moments → Runs world held input disk before before
runs_start world held input disk before h e m =
    subst (λ x. Runs world x input disk before before) (sym h) (record { rest = world; texts = []; left = e; shown = m; conversation = begun; written = appends_none before })

-- a refusal ends the conversation early, and want of memory cuts it
pub explained : (world : World) (before after : Option (List ℕ)) (failure : Failure) → IsRefusal failure → IsShort world before after → IsCut world before after → Explains failure world before after
explained world before after (Refused text) r s c = s
explained world before after Usage r s c = absurd r
explained world before after Input r s c = absurd r
explained world before after Memory r s c = c
explained world before after Output r s c = absurd r

module _ (world : World) (old : Held) (input : Option (List ℕ)) (disk : Option (List Moment)) (before after : Option (List ℕ)) (so_far : Runs world old input disk before after) where
  pub runs_on : has_exited old.state ≡ false → (new : Held) (body : List ℕ) (input' : Option (List ℕ)) (disk' : Option (List Moment)) (after' : Option (List ℕ)) → ((rest : List ℕ) → input ≡ Some rest → (left : List ℕ) × (input' ≡ Some left) × (frame_at rest ≡ Ok (Some body, left))) → ((moments : List Moment) → disk ≡ Some moments → AnswersAs old moments body new disk' after after') → Runs world new input' disk' before after'
  runs_on goes_on new body input' disk' after' read more =
      let r = read so_far.rest.bytes so_far.left in
      let m = more so_far.rest.moments so_far.shown in
      record {
        rest = record { bytes = r.0; moments = m.1.0 };
        texts = so_far.texts ++ m.0;
        left = r.1;
        shown = m.1.1;
        conversation = answered so_far.conversation goes_on r.2 m.1.2;
        written = subst (Appends before after') (sym (frames-append so_far.texts m.0)) (Appends-trans before after after' _ _ so_far.written m.2);
      }

  pub ran : Ran world old.state input before after
  ran = record { held = old; rest = so_far.rest; texts = so_far.texts; is_state = refl; left = so_far.left; conversation = so_far.conversation; written = so_far.written }

  pub ran_end : (input' : Option (List ℕ)) → ((rest : List ℕ) → input ≡ Some rest → (left : List ℕ) × (input' ≡ Some left) × (frame_at rest ≡ Ok (None, left))) → Ran world old.state input' before after × (input' ≡ Some [])
  ran_end input' read =
      let n = read so_far.rest.bytes so_far.left in
      let z = none_at_end so_far.rest.bytes n.0 n.2 in
      (record { held = old; rest = so_far.rest; texts = so_far.texts; is_state = refl; left = n.1 ∙ ap Some (z.1 ∙ sym z.0); conversation = so_far.conversation; written = so_far.written }, n.1 ∙ ap Some z.1)

  whole : (xs : List ℕ) → Appends before after xs → AppendsBeginning before after xs
  whole xs w = (length xs, subst (Appends before after) (sym (take_all (length xs) xs (omega arith))) w)

  pub cut : IsCut world before after
  cut = record { held = old; rest = so_far.rest; texts = so_far.texts; conversation = so_far.conversation; written = whole _ so_far.written }

  pub cut_within : has_exited old.state ≡ false → (body : List ℕ) (input' after' : Option (List ℕ)) → ((rest : List ℕ) → input ≡ Some rest → (left : List ℕ) × (input' ≡ Some left) × (frame_at rest ≡ Ok (Some body, left))) → StopsAt old so_far.rest.moments body after after' → IsCut world before after'
  cut_within goes_on body input' after' read (inl none) =
      record { held = old; rest = so_far.rest; texts = so_far.texts; conversation = so_far.conversation; written = subst (AppendsBeginning before after') (append-nil (frames so_far.texts)) (AppendsBeginning-behind before after after' (frames so_far.texts) [] so_far.written none) }
  cut_within goes_on body input' after' read (inr part) =
      let r = read so_far.rest.bytes so_far.left in
      record {
        held = part.0;
        rest = record { bytes = r.0; moments = part.1 };
        texts = so_far.texts ++ part.2;
        conversation = answered so_far.conversation goes_on r.2 part.3;
        written = subst (AppendsBeginning before after') (sym (frames-append so_far.texts part.2)) (AppendsBeginning-behind before after after' (frames so_far.texts) (frames part.2) so_far.written part.4);
      }

  short : (fault : FrameFault) → frame_at so_far.rest.bytes ≡ Err fault → IsShort world before after
  short fault e = record { held = old; rest = so_far.rest; texts = so_far.texts; conversation = so_far.conversation; why = inr (inl (fault, e)); written = so_far.written }

  pub explains_fault : (fault : FrameFault) (failure : Failure) → FromFault fault failure → ((rest : List ℕ) → input ≡ Some rest → Fails fault (frame_at rest)) → Explains failure world before after
  explains_fault faults.Malformed failure f read = explained world before after failure f (short faults.Malformed (read so_far.rest.bytes so_far.left)) cut
  explains_fault faults.Cut failure f read = explained world before after failure f (short faults.Cut (read so_far.rest.bytes so_far.left)) cut
  explains_fault faults.TooLong failure f read = explained world before after failure f (short faults.TooLong (read so_far.rest.bytes so_far.left)) cut
  explains_fault faults.Unreadable failure f read = subst (λ x. Explains x world before after) (sym f) cut
  explains_fault faults.Memory failure f read = subst (λ x. Explains x world before after) (sym f) cut

  pub explains_answer : has_exited old.state ≡ false → (failure : Failure) (body : List ℕ) (input' after' : Option (List ℕ)) → (failure ≡ Memory) ⊎ (failure ≡ Output) → ((rest : List ℕ) → input ≡ Some rest → (left : List ℕ) × (input' ≡ Some left) × (frame_at rest ≡ Ok (Some body, left))) → ((moments : List Moment) → disk ≡ Some moments → StopsAt old moments body after after') → Explains failure world before after'
  explains_answer goes_on failure body input' after' (inl m) read s =
      subst (λ x. Explains x world before after') (sym m) (cut_within goes_on body input' after' read (s so_far.rest.moments so_far.shown))
  explains_answer goes_on failure body input' after' (inr m) read s =
      subst (λ x. Explains x world before after') (sym m) (cut_within goes_on body input' after' read (s so_far.rest.moments so_far.shown))

-- ---- the status

short_status : (world : World) (status : ℕ) (input before after : Option (List ℕ)) → status ≡ 1 → IsShort world before after → Converses world status input before after
short_status world status input before after e s = (λ z. absurd (omega arith), λ z. s, λ y z. absurd (z e))

cut_status : (world : World) (status : ℕ) (input before after : Option (List ℕ)) → status ≢ 0 → status ≢ 1 → IsCut world before after → Converses world status input before after
cut_status world status input before after n m s = (λ z. absurd (n z), λ z. absurd (m z), λ y z. s)

pub failed : (world : World) (failure : Failure) (status : ℕ) (input before after : Option (List ℕ)) → status ≡ status_of failure → Explains failure world before after → Converses world status input before after
failed world (Refused text) status input before after e x = short_status world status input before after e x
failed world Usage status input before after e x = absurd x
failed world Input status input before after e x = cut_status world status input before after (omega arith) (omega arith) x
failed world Memory status input before after e x = cut_status world status input before after (omega arith) (omega arith) x
failed world Output status input before after e x = cut_status world status input before after (omega arith) (omega arith) x

pub ended : (world : World) (input before after : Option (List ℕ)) → Ran world Ended input before after → Converses world 0 input before after
ended world input before after r = (λ z. r, λ z. absurd (omega arith), λ y z. absurd (y refl))

pub aborted : (world : World) (input before after : Option (List ℕ)) → Ran world Aborted input before after → Converses world 1 input before after
aborted world input before after r =
    short_status world 1 input before after refl (record { held = r.held; rest = r.rest; texts = r.texts; conversation = r.conversation; why = inl r.is_state; written = r.written })

ran_cut : (world : World) (state : State) (input before after : Option (List ℕ)) → Ran world state input before after → IsCut world before after
ran_cut world state input before after r =
    record { held = r.held; rest = r.rest; texts = r.texts; conversation = r.conversation; written = (length (frames r.texts), subst (Appends before after) (sym (take_all (length (frames r.texts)) (frames r.texts) (omega arith))) r.written) }

ran_short : (world : World) (state : State) (input before after : Option (List ℕ)) → Ran world state input before after → state ≢ Ended → state ≢ Aborted → IsOver state input → IsShort world before after
ran_short world state input before after r n m (inl e) = absurd (n e)
ran_short world state input before after r n m (inr (inl e)) = absurd (m e)
ran_short world state input before after r n m (inr (inr e)) =
    let z : r.rest.bytes ≡ [] = let f = sym r.left ∙ e in cc in
    record { held = r.held; rest = r.rest; texts = r.texts; conversation = r.conversation; why = inr (inr z); written = r.written }

-- the input is at its end
pub left_off : (world : World) (state : State) (failure : Failure) (status : ℕ) (input before after : Option (List ℕ)) → Ran world state input before after → state ≢ Ended → state ≢ Aborted → IsOver state input → IsRefusal failure → status ≡ status_of failure → Converses world status input before after
left_off world state failure status input before after r n m o f e =
    failed world failure status input before after e (explained world before after failure f (ran_short world state input before after r n m o) (ran_cut world state input before after r))

early : (world : World) (state : State) (status : ℕ) (input before after : Option (List ℕ)) → Ran world state input before after → state ≢ Ended → state ≢ Aborted → IsOver state input → IsEarly status → Converses world status input before after
early world state status input before after r n m o f = left_off world state f.0 status input before after r n m o f.1 f.2

pub ends : (world : World) (state : State) (status : ℕ) (input before after : Option (List ℕ)) → Ran world state input before after → IsOver state input → EndsAs state status → Converses world status input before after
ends world Ended status input before after r o e = subst (λ n. Converses world n input before after) (sym e) (ended world input before after r)
ends world Aborted status input before after r o e = subst (λ n. Converses world n input before after) (sym e) (aborted world input before after r)
ends world Fresh status input before after r o e = early world Fresh status input before after r (λ q. cc) (λ q. cc) o e
ends world Running status input before after r o e = early world Running status input before after r (λ q. cc) (λ q. cc) o e
ends world ShutDown status input before after r o e = early world ShutDown status input before after r (λ q. cc) (λ q. cc) o e
