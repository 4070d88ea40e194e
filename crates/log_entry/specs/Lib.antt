-- EntryKind  the kinds of entries by their numbers
-- Part    the part that Next entry hands back
-- Entry   what an entry of a log is, a constructor a kind, and its letter
-- Next    what Next entry gives at an offset
-- Log     there is exactly one such thing; and the entries of the walk
-- search  how the code finds an entry: its length, and which it is
pub mod EntryKind
pub mod Part
pub mod Entry
pub mod Next
pub mod search
pub mod Log
