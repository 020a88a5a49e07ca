-- Whole conversations: which bytes are written for the bytes that are read and for what the disk shows.
use Rattle.std.specs.Prelude.{◌≡◌, ◌≢◌, ◌⊎◌, ℕ, List, [], ◌∷◌, ◌++◌, Bool, true, false, Option, Some, Ok, Err}
use Rattle.std.specs.Io.KnownBytes.{Appends}
use Rattle.serde_json.specs.Data.{Data}
use Rattle.isle_cli.specs.Failure.{status_of}
use Rattle.isle_cli.specs.Streams.{AppendsBeginning}
use Rattle.isle_lsp_frames.specs.Frames.{frame, frame_at}
use Rattle.isle_lsp_frames.specs.declared.frames.FrameFault.{FrameFault}
use Rattle.isle_lsp_frames.specs.declared.frames.FrameFault.TheVariants as faults
use Rattle.isle_cli.specs.declared.failure.Failure.{Failure}
use Rattle.isle_cli.specs.declared.failure.Failure.TheVariants.{Refused, Usage, Input, Memory, Output}
use Rattle.isle_lsp_protocol.specs.Machine.{next_state, action_of}
use Rattle.isle_lsp_protocol.specs.declared.machine.State.{State}
use Rattle.isle_lsp_protocol.specs.declared.machine.State.TheVariants.{Fresh, Running, ShutDown, Ended, Aborted}
use Rattle.isle_lsp_protocol.specs.Decoding.{Decodes, message_in}
use Rattle.isle_lsp_files.specs.Disks.{Asked, Moment, View}
use Rattle.isle_lsp.specs.Serving.{Held, Sends, Shows, asked, asked_first, documents_after, encoding_after, folders_after, takes_after, watches_after}
use Rattle.isle_lsp_text.specs.declared.positions.PositionEncoding.TheVariants.{Utf16}

-- The message changes the server's state from old to new, and these messages are sent. What each of both needs of the disk, the disk shows at
-- the next moment.
pub record Answers (old : Held) (moments : List Moment) (body : List ℕ) (new : Held) (later : List Moment) (sent : List (List ℕ)) : Type 0 where
  pub json : Option Data
  pub between : List Moment
  pub opened : View
  pub view : View
  pub decodes : Decodes body json
  pub opens : Shows (asked_first (action_of old.state (message_in json)) json) moments between opened
  pub state : new.state ≡ next_state old.state (message_in json)
  pub documents : new.documents ≡ documents_after old.encoding (action_of old.state (message_in json)) json opened old.documents
  pub encoding : new.encoding ≡ encoding_after (action_of old.state (message_in json)) json old.encoding
  pub folders : new.folders ≡ folders_after (action_of old.state (message_in json)) json old.folders
  pub takes : new.takes_document_changes ≡ takes_after (action_of old.state (message_in json)) json old.takes_document_changes
  pub watches : new.watches_files ≡ watches_after (action_of old.state (message_in json)) json old.watches_files
  pub shows : Shows (asked (action_of old.state (message_in json)) json new) between later view
  pub sends : Sends (action_of old.state (message_in json)) json new view sent

abbrev pub frames : List (List ℕ) → List ℕ
frames [] = []
frames (text ∷ texts) = frame text ++ frames texts

-- the server's first state
abbrev pub nothing : Held
nothing = record { state = Fresh; encoding = Utf16; documents = []; folders = []; takes_document_changes = false; watches_files = false }

-- what comes in: the bytes of the client, and the moments of the disk
pub record World : Type 0 where
  pub bytes : List ℕ
  pub moments : List Moment

-- whether `exit` has come
abbrev pub has_exited : State → Bool
has_exited Fresh = false
has_exited Running = false
has_exited ShutDown = false
has_exited Ended = true
has_exited Aborted = true

-- From this world, one message after another was answered, and these texts were sent; this is left of it. After `exit` no message is read.
pub data Conversation (world : World) : Held → World → List (List ℕ) → Type 0 where
  begun : Conversation world nothing world []
  answered : {old : Held} {rest : World} {texts : List (List ℕ)} {body after : List ℕ} {new : Held} {later : List Moment} {sent : List (List ℕ)} →
      Conversation world old rest texts → has_exited old.state ≡ false → frame_at rest.bytes ≡ Ok (Some body, after) → Answers old rest.moments body new later sent →
      Conversation world new (record { bytes = after; moments = later }) (texts ++ sent)

-- The conversation ended in this state; everything sent was written in full, and nothing else.
pub record Ran (world : World) (state : State) (input before after : Option (List ℕ)) : Type 0 where
  pub held : Held
  pub rest : World
  pub texts : List (List ℕ)
  pub is_state : held.state ≡ state
  pub left : input ≡ Some rest.bytes
  pub conversation : Conversation world held rest texts
  pub written : Appends before after (frames texts)

-- It was cut off, and a prefix of what was sent was written.
pub record IsCut (world : World) (before after : Option (List ℕ)) : Type 0 where
  pub held : Held
  pub rest : World
  pub texts : List (List ℕ)
  pub conversation : Conversation world held rest texts
  pub written : AppendsBeginning before after (frames texts)

-- It ended without `exit` after `shutdown`: by an `exit` before `shutdown`, by a message that cannot be read,
-- or by the end of the input. Everything sent was written in full, and nothing else.
pub record IsShort (world : World) (before after : Option (List ℕ)) : Type 0 where
  pub held : Held
  pub rest : World
  pub texts : List (List ℕ)
  pub conversation : Conversation world held rest texts
  pub why : (held.state ≡ Aborted) ⊎ (((fault : FrameFault) × (frame_at rest.bytes ≡ Err fault)) ⊎ (rest.bytes ≡ []))
  pub written : Appends before after (frames texts)

-- `exit` came, or the input is at its end
abbrev pub IsOver : State → Option (List ℕ) → Type 0
IsOver state input = (state ≡ Ended) ⊎ ((state ≡ Aborted) ⊎ (input ≡ Some []))

-- the meaning of the exit status
abbrev pub Converses : World → ℕ → (input before after : Option (List ℕ)) → Type 0
Converses world status input before after =
    (status ≡ 0 → Ran world Ended input before after) × (status ≡ 1 → IsShort world before after)
    × (status ≢ 0 → status ≢ 1 → IsCut world before after)

-- ---- the moments that are left

-- an answer with what is left of the moments
abbrev pub AnswersWithin : Held → List Moment → List ℕ → Held → (left : Option (List Moment)) → (sent : List (List ℕ)) → Type 0
AnswersWithin old moments body new left sent = (later : List Moment) × (left ≡ Some later) × Answers old moments body new later sent

-- a view of what is asked, with what is left of the moments
abbrev pub ShowsWithin : Option Asked → List Moment → (left : Option (List Moment)) → View → Type 0
ShowsWithin question moments left view = (later : List Moment) × (left ≡ Some later) × Shows question moments later view

-- ---- one message

-- the message is answered, and all that is sent is written
abbrev pub AnswersAs : Held → List Moment → List ℕ → Held → (left : Option (List Moment)) → (before after : Option (List ℕ)) → Type 0
AnswersAs old moments body new left before after =
    (sent : List (List ℕ)) × AnswersWithin old moments body new left sent × Appends before after (frames sent)

-- nothing is written, or a prefix of what is sent
abbrev pub StopsAt : Held → List Moment → List ℕ → (before after : Option (List ℕ)) → Type 0
StopsAt old moments body before after =
    AppendsBeginning before after []
    ⊎ ((new : Held) × (later : List Moment) × (sent : List (List ℕ)) × Answers old moments body new later sent
    × AppendsBeginning before after (frames sent))

-- the input is rejected, or memory ran out
abbrev pub IsRefusal : Failure → Type 0
IsRefusal (Refused text) = Unit {0}
IsRefusal Memory = Unit {0}
IsRefusal _ = ⊥

abbrev pub IsEarly : ℕ → Type 0
IsEarly status = (failure : Failure) × IsRefusal failure × (status ≡ status_of failure)

-- the status of a conversation that ends in this state: before `exit` it is that of rejected input
abbrev pub EndsAs : State → ℕ → Type 0
EndsAs Ended status = status ≡ 0
EndsAs Aborted status = status ≡ 1
EndsAs Fresh status = IsEarly status
EndsAs Running status = IsEarly status
EndsAs ShutDown status = IsEarly status

-- why a conversation ends at this fault
abbrev pub FromFault : FrameFault → Failure → Type 0
FromFault faults.Unreadable failure = failure ≡ Input
FromFault faults.Memory failure = failure ≡ Memory
FromFault _ failure = IsRefusal failure

-- the conversation before a failure
abbrev pub Explains : Failure → World → (before after : Option (List ℕ)) → Type 0
Explains (Refused text) world before after = IsShort world before after
Explains Usage world before after = ⊥
Explains Input world before after = IsCut world before after
Explains Memory world before after = IsCut world before after
Explains Output world before after = IsCut world before after
