mod Answered
mod AnsweredApart
mod Below
mod Words
