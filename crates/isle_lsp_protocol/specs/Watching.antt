-- The request of the server that the client watches files.
use Rattle.std.specs.Prelude.{ℕ, List, codes}
use Rattle.serde_json.specs.Data.{Data, Members, array, item, member, no_items, no_members, object, string}

-- a member whose value is a text
abbrev text_member : (key value : List ℕ) → Members → Members
text_member key value more = member key (string value) more

-- the files whose names match a pattern, in any folder
abbrev watcher : List ℕ → Data
watcher pattern = object (text_member (codes "globPattern") pattern no_members)

-- all files of ISLE, and those that say which files make a program
abbrev watchers : Data
watchers = object (member (codes "watchers") (array (item (watcher (codes "**/*.isle")) (item (watcher (codes "**/isle.toml")) no_items))) no_members)

-- that their changes are told
abbrev registration : Data
registration =
    object (text_member (codes "id") (codes "isle-lsp/files")
    (text_member (codes "method") (codes "workspace/didChangeWatchedFiles")
    (member (codes "registerOptions") watchers no_members)))

abbrev pub watch_request : Data
watch_request =
    object (text_member (codes "id") (codes "isle-lsp/watch")
    (text_member (codes "jsonrpc") (codes "2.0")
    (text_member (codes "method") (codes "client/registerCapability")
    (member (codes "params") (object (member (codes "registrations") (array (item registration no_items)) no_members)) no_members))))
