-- The states of a session, and the server's action on each message.
use Rattle.isle_lsp_protocol.specs.declared.machine.State.{State}
use Rattle.isle_lsp_protocol.specs.declared.machine.State.TheVariants.{Fresh, Running, ShutDown, Ended, Aborted}
use Rattle.isle_lsp_protocol.specs.declared.machine.Request as requests
use Rattle.isle_lsp_protocol.specs.declared.machine.Request.TheVariants.{Initialize, Shutdown, Unknown}
use Rattle.isle_lsp_protocol.specs.declared.machine.Notification.TheVariants.{Exit}
use Rattle.isle_lsp_protocol.specs.declared.machine.Message as messages
use Rattle.isle_lsp_protocol.specs.declared.machine.Message.TheVariants.{Request, Notification, Response, Invalid, Broken}
use Rattle.isle_lsp_protocol.specs.declared.machine.Action as actions
use Rattle.isle_lsp_protocol.specs.declared.machine.Action.TheVariants.{Ignore, Answer, Reject, Handle}
use Rattle.isle_lsp_protocol.specs.declared.machine.ErrorCode.TheVariants.{ParseError, InvalidRequest, MethodNotFound, ServerNotInitialized}

-- the state after a message
abbrev pub next_state : State → messages.Message → State
next_state Fresh (Request Initialize) = Running
next_state Running (Request Shutdown) = ShutDown
next_state ShutDown (Notification Exit) = Ended
next_state Fresh (Notification Exit) = Aborted
next_state Running (Notification Exit) = Aborted
next_state state message = state

-- the action of a running session on a request
abbrev pub running_action : requests.Request → actions.Action
running_action Initialize = Reject InvalidRequest
running_action Unknown = Reject MethodNotFound
running_action request = Answer request

abbrev pub fresh_action : requests.Request → actions.Action
fresh_action Initialize = Answer Initialize
fresh_action request = Reject ServerNotInitialized

-- the server's action on a message
abbrev pub action_of : State → messages.Message → actions.Action
action_of Ended message = Ignore
action_of Aborted message = Ignore
action_of state Broken = Reject ParseError
action_of state Invalid = Reject InvalidRequest
action_of state Response = Ignore
action_of state (Notification Exit) = Ignore
action_of Running (Notification notification) = Handle notification
action_of state (Notification notification) = Ignore
action_of Fresh (Request request) = fresh_action request
action_of Running (Request request) = running_action request
action_of ShutDown (Request request) = Reject InvalidRequest
