mod Answered
mod OneFault
mod ReportLemmas
mod SecondWord
