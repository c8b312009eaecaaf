-- lists, bytes, and how the reader goes on
pub mod Lists
pub mod Characters
pub mod Running
pub mod Counting
-- references and values
pub mod References
pub mod Digits
pub mod Begun
pub mod Values
pub mod Completing
-- places, tags, and what a reader knows there
pub mod SlotsFilled
pub mod Once
pub mod Comments
pub mod Places
pub mod Nesting
pub mod TagsRead
pub mod AttributesRead
pub mod States
pub mod TagStates
-- a reader gets to each place of the grammar, or finds a late fault
pub mod TagRuns
pub mod AttributeRuns
pub mod ValueRuns
pub mod ElementRuns
pub mod ContentRuns
pub mod PlaceRuns
pub mod TextRuns
-- what a reader has read is in the grammar, and where it stops its bytes show why
pub mod Invariant
pub mod MarkupGrowth
pub mod MarkupSteps
pub mod TagGrowth
pub mod AttributeGrowth
pub mod Growth
-- what a reader has read goes on as some text; what is shown is found
pub mod Beginnings
pub mod GoingOn
pub mod Shown
pub mod ShownTags
-- the laws
pub mod Texts
pub mod Prefixes
pub mod Stopping
pub mod Utf8Lemmas
pub mod FaultLaws
pub mod FaultsFound
pub mod ShownFirst
pub mod Limits
-- what is written under any scheme is read
pub mod Writable
pub mod PlainValues
pub mod Escaping
pub mod WrittenTags
pub mod WrittenElements
pub mod WrittenEntries
pub mod WrittenContent
pub mod WrittenTexts
-- the writer
pub mod WriteLemmas
