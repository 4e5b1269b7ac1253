pub mod Slackness
